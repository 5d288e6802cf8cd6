use Rattle.std.proofs.Common.{◌+◌, ◌-◌, ◌∙◌, length, refl, arith}
use Rattle.capture_ng.proofs.ComingLemmas.{behind_came, grown, lent}
use Rattle.capture_ng.proofs.coming.read_behind.Goals as goal

pub returns-clause-octets : goal.returns-clause-octets
returns-clause-octets g c =
    let first = c.args.first.now in
    let whole = length first + c.args.size in
    let was = grown first c.as_mut_slice.result.now c.resize.new.self.items c.extend_from_slice.new.self.items whole _ (omega arith)
    (search (c.in_ok-extend_from_slice.ensures.items, c.in_ok-octets.ensures.items)) c.in_ok-resize.ensures.items (search c.as_mut_slice.ensures) in
    behind_came c.args.id.number (length first) c.in_ok-n.n c.args.size (whole - length first) (g.D.Desk.told c.args.desk.now) first c.as_mut_slice.result.now c.fill_part.new.buf c.truncate.new.self.items
    refl was (omega arith) c.in_ok-n.ensures.octets (c.truncate.ensures.items ∙ lent (length first + c.in_ok-n.n) c.resize.new.self.len c.fill_part.new.buf _ (omega (arith, c.in_ok-n.ensures.len, c.as_mut_slice.ensures.len, c.resize.ensures.len)))
