use Rattle.std.proofs.Common.{sym, ap, ◌∙◌, not, false, true}
use Rattle.ordered_set.specs.Keys.{has}
use Rattle.ordered_set.proofs.KeysLemmas.{has-told, has-again, has-insert, ascends-insert}
use Rattle.ordered_set.proofs.set.OrderedSet.insert.Goals as goal

pub returns-then-is_at-clause-new : goal.returns-then-is_at-clause-new
returns-then-is_at-clause-new g c =
    sym (ap not (has-told g.K.Ordered.order g.K.Ordered.is_total _ _ _ c.place_to_put-place.ensures _ true c.is_at.ensures c.if-is_at.true))

pub returns-then-is_at-clause-members : goal.returns-then-is_at-clause-members
returns-then-is_at-clause-members g c =
    has-again g.K.Ordered.order g.K.Ordered.is_total _ _
    (has-told g.K.Ordered.order g.K.Ordered.is_total _ _ _ c.place_to_put-place.ensures _ true c.is_at.ensures c.if-is_at.true)

pub insert-requires-clause-room : goal.insert-requires-clause-room
insert-requires-clause-room g c =
    let room = c.requires (has-told g.K.Ordered.order g.K.Ordered.is_total _ _ _ c.place_to_put-place.ensures _ false c.is_at.ensures c.if-is_at.false) in
    rw (← c.self.view_is) at room

pub invariant_of-self : goal.invariant_of-self
invariant_of-self g c =
    let new = has-told g.K.Ordered.order g.K.Ordered.is_total _ _ _ c.place_to_put-place.ensures _ false c.is_at.ensures c.if-is_at.false in
    let ascends = ascends-insert g.K.Ordered.order g.K.Ordered.is_total c.args.key c.args.self.now.keys c.place_to_put-place.result c.place_to_put-place.ensures new in
    rw c.insert.ensures.items (rw (← c.self.view_is) at ascends)

pub returns-clause-new : goal.returns-clause-new
returns-clause-new g c =
    sym (ap not (has-told g.K.Ordered.order g.K.Ordered.is_total _ _ _ c.place_to_put-place.ensures _ false c.is_at.ensures c.if-is_at.false))

pub returns-clause-members : goal.returns-clause-members
returns-clause-members g c other =
    ap (has g.K.Ordered.order other) c.insert.ensures.items
    ∙ rw (← c.self.view_is) (has-insert g.K.Ordered.order g.K.Ordered.is_total c.args.key c.self.inside.list.items c.place_to_put-place.result other)
