use Rattle.std.proofs.Common.{sym, ◌∙◌}
use Rattle.ordered_set.proofs.KeysLemmas.{has-at}
use Rattle.ordered_set.proofs.set.OrderedSet.contains.Goals as goal

pub returns : goal.returns
returns g c =
    c.is_at.ensures ∙ sym (has-at g.K.Ordered.order g.K.Ordered.is_total _ _ _ c.place_of.ensures)
