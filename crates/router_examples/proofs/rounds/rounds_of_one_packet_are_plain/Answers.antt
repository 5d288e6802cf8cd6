use Rattle.std.proofs.Common.{refl}
use Rattle.router_examples.proofs.OnLiterals.{router_on_literals}
use Rattle.router_examples.proofs.rounds.rounds_of_one_packet_are_plain.Goals as goal

pub returns-clause-lines : goal.returns-clause-lines
unfolding router_on_literals
returns-clause-lines c = refl

pub returns-clause-packets : goal.returns-clause-packets
unfolding router_on_literals
returns-clause-packets c = refl
