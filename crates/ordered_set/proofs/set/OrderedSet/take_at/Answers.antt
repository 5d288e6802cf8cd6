use Rattle.std.proofs.Common.{◌≡◌, Less}
use Rattle.std.proofs.lemmas.List.Quantifiers.{all_pairs_remove}
use Rattle.ordered_set.proofs.set.OrderedSet.take_at.Goals as goal

pub invariant_of-self : goal.invariant_of-self
invariant_of-self g c =
    let inside = rw (← c.self.view_is) at c.requires in
    rw c.remove.ensures.items (all_pairs_remove (λ a b. g.K.Ordered.order a b ≡ Less) c.self.inside.list.items c.args.place inside c.self.invariant)
