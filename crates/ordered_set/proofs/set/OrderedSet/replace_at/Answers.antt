use Rattle.ordered_set.proofs.TiedLemmas.{ascends-set, tied-within}
use Rattle.ordered_set.proofs.set.OrderedSet.replace_at.Goals as goal

pub edit-requires : goal.edit-requires
edit-requires g c =
    let inside = tied-within g.K.Ordered.order g.K.Ordered.is_total c.args.key c.args.self.now.keys c.args.place c.requires in
    rw (← c.self.view_is) at inside

pub invariant_of-self : goal.invariant_of-self
invariant_of-self g c =
    let ascends = ascends-set g.K.Ordered.order g.K.Ordered.is_total c.args.key c.args.self.now.keys c.args.place c.requires (rw (← c.self.view_is) c.self.invariant) in
    rw (← c.self.view_is) at ascends
