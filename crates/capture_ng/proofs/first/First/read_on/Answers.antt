use Rattle.capture_ng.proofs.ComingLemmas.{front_first}
use Rattle.std.proofs.Common.{arith}
use Rattle.capture_ng.proofs.first.First.read_on.Goals as goal

pub returns-clause-front : goal.returns-clause-front
returns-clause-front g c = rw (← c.self.view_is) (front_first c.self.inside.octets c.fill_part.new.buf c.self.inside.count c.in_ok-n.n (omega (arith, c.self.invariant)) c.in_ok-n.ensures.front)
