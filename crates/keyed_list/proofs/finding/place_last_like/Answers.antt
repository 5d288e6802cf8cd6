use Rattle.std.proofs.Common.{◌||◌, ◌≡◌, true, sym, ap, ◌∙◌}
use Rattle.keyed_list.specs.Keyed.{has_key, is_key, is_other}
use Rattle.keyed_list.specs.declared.keyed.Marks.{Marks}
use Rattle.keyed_list.proofs.OrderLemmas.{same_key-itself}
use Rattle.keyed_list.proofs.WalkLemmas.{holds-of}
use Rattle.keyed_list.proofs.finding.place_last_like.Goals as goal

pub loop-behind-init : goal.loop-behind-init
loop-behind-init g c = (
  c.requires.place,
  holds-of g.T.Keyed.marks_of c.marks.result.key c.args.list.now.items (λ y. is_key g.T.Keyed.marks_of c.marks.result.key y.item ≡ true) c.args.place c.in-Some.numbered.now (sym c.in-Some.ensures)
      (ap (λ (m : Marks). has_key m c.marks.result.key) (sym c.marks.ensures) ∙ ap (λ b. b || is_other c.marks.result.other c.marks.result.key) (same_key-itself c.marks.result.key)),
)
