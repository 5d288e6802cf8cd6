use Rattle.std.proofs.lemmas.List.{take_rest}
use Rattle.decap.proofs.opening.inner_packet.Goals as goal

pub returns-clause-rules : goal.returns-clause-rules
returns-clause-rules c = rw (take_rest c.args.octets.now 8) at c.read_ip.ensures.rules

pub returns-clause-value : goal.returns-clause-value
returns-clause-value c = rw (take_rest c.args.octets.now 8) at c.read_ip.ensures.packet
