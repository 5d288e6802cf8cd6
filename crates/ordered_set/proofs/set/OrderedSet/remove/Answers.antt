use Rattle.std.proofs.Common.{sym, ap, ◌∙◌, ◌+◌, length, false, true}
use Rattle.std.proofs.lemmas.List.Edits.{length-remove}
use Rattle.ordered_set.specs.Keys.{has}
use Rattle.ordered_set.proofs.KeysLemmas.{has-told, has-still, has-remove, ascends-remove, place-inside}
use Rattle.ordered_set.proofs.set.OrderedSet.remove.Goals as goal

pub returns-then-not-is_at-clause-was : goal.returns-then-not-is_at-clause-was
returns-then-not-is_at-clause-was g c =
    sym (has-told g.K.Ordered.order g.K.Ordered.is_total _ _ _ c.place_to_take-place.ensures _ false c.is_at.ensures c.if-not-is_at.true)

pub returns-then-not-is_at-clause-members : goal.returns-then-not-is_at-clause-members
returns-then-not-is_at-clause-members g c =
    has-still g.K.Ordered.order g.K.Ordered.is_total _ _
    (has-told g.K.Ordered.order g.K.Ordered.is_total _ _ _ c.place_to_take-place.ensures _ false c.is_at.ensures c.if-not-is_at.true)

pub remove-requires : goal.remove-requires
remove-requires g c =
    let was = has-told g.K.Ordered.order g.K.Ordered.is_total _ _ _ c.place_to_take-place.ensures _ true c.is_at.ensures c.if-not-is_at.false in
    let inside = place-inside g.K.Ordered.order g.K.Ordered.is_total c.args.key.now c.args.self.now.keys c.place_to_take-place.result c.place_to_take-place.ensures was in
    rw (← c.self.view_is) at inside

pub invariant_of-self : goal.invariant_of-self
invariant_of-self g c =
    let was = has-told g.K.Ordered.order g.K.Ordered.is_total _ _ _ c.place_to_take-place.ensures _ true c.is_at.ensures c.if-not-is_at.false in
    let ascends = ascends-remove g.K.Ordered.order g.K.Ordered.is_total c.args.key.now c.args.self.now.keys c.place_to_take-place.result c.place_to_take-place.ensures was in
    rw c.remove.ensures.items (rw (← c.self.view_is) at ascends)

pub returns-clause-was : goal.returns-clause-was
returns-clause-was g c =
    sym (has-told g.K.Ordered.order g.K.Ordered.is_total _ _ _ c.place_to_take-place.ensures _ true c.is_at.ensures c.if-not-is_at.false)

pub returns-clause-members : goal.returns-clause-members
returns-clause-members g c other =
    let was = has-told g.K.Ordered.order g.K.Ordered.is_total _ _ _ c.place_to_take-place.ensures _ true c.is_at.ensures c.if-not-is_at.false in
    let members = has-remove g.K.Ordered.order g.K.Ordered.is_total c.args.key.now c.args.self.now.keys c.place_to_take-place.result c.place_to_take-place.ensures was other in
    ap (has g.K.Ordered.order other) c.remove.ensures.items
    ∙ rw (← c.self.view_is) (rw (← c.self.view_is) at members)

pub returns-clause-len : goal.returns-clause-len
returns-clause-len g c =
    let was = has-told g.K.Ordered.order g.K.Ordered.is_total _ _ _ c.place_to_take-place.ensures _ true c.is_at.ensures c.if-not-is_at.false in
    let fewer = length-remove c.args.self.now.keys c.place_to_take-place.result (place-inside g.K.Ordered.order g.K.Ordered.is_total c.args.key.now c.args.self.now.keys c.place_to_take-place.result c.place_to_take-place.ensures was) in
    ap (λ (keys : _). length keys + 1) c.remove.ensures.items ∙ rw (← c.self.view_is) (rw (← c.self.view_is) at fewer)
