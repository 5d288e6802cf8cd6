use Rattle.std.proofs.Common.{◌∙◌}
use Rattle.ordered_set.proofs.KeysLemmas.{ascends-insert, has-at}
use Rattle.ordered_set.proofs.set.OrderedSet.put_at.Goals as goal

pub invariant_of-self : goal.invariant_of-self
invariant_of-self g c =
    let new = has-at g.K.Ordered.order g.K.Ordered.is_total c.args.key c.args.self.now.keys c.args.place c.requires.place ∙ c.requires.apart in
    let ascends = ascends-insert g.K.Ordered.order g.K.Ordered.is_total c.args.key c.args.self.now.keys c.args.place c.requires.place new in
    rw c.insert.ensures.items (rw (← c.self.view_is) at ascends)
