use Rattle.std.proofs.Common.{Some, refl, sym, ap, ◌∙◌}
use Rattle.node_store.proofs.copies.copied_slot.Goals as goal

pub returns-clause-slot : goal.returns-clause-slot
returns-clause-slot g c =
    let same = c.requires.copies c.read.result.now c.each.result (record { shown = _; shows = refl; says = record { met = c.each.ensures } }) in
    let is = rw c.in_ok-copy.was at same in
    ap (λ node. Some node) is ∙ sym c.read.ensures.node
