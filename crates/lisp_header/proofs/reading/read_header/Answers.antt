use Rattle.lisp_header.proofs.Ranges.{in_range}
use Rattle.lisp_header.proofs.reading.read_header.Goals as goal

pub returns-clause-range : goal.returns-clause-range
returns-clause-range c = rw c.header_at.ensures (in_range c.args.octets.now c.type_inv.octets)
