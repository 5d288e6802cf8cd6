use Rattle.std.proofs.Common.{sym, ◌∙◌}
use Rattle.ordered_set.proofs.KeysLemmas.{place-first}
use Rattle.ordered_set.proofs.set.OrderedSet.place_to_take.Goals as goal

pub returns-then-is_at : goal.returns-then-is_at
returns-then-is_at g c =
    place-first g.K.Ordered.order c.args.key.now c.args.self.now.keys (rw (← c.self.view_is) c.self.invariant) (sym c.is_at.ensures ∙ c.if-is_at.true)
