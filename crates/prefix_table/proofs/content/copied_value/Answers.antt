use Rattle.std.proofs.Common.{Some, refl, sym, ap, ◌∙◌}
use Rattle.prefix_table.proofs.content.copied_value.Goals as goal

pub returns : goal.returns
returns g c =
    let same = c.requires.copies c.in-Some.value c.each.result (record { shown = _; shows = refl; says = record { met = c.each.ensures } }) in
    let is = rw c.in_ok-copy.was at same in
    ap (λ value. Some value) is ∙ sym c.in-Some.is
