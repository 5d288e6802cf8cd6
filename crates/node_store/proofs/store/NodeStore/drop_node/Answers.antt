use Rattle.std.proofs.Common.{None}
use Rattle.std.proofs.lemmas.List.{get_or-set_same, get_or-set_other}
use Rattle.node_store.proofs.SlotLemmas.{live_used, live_within, sound_drop, changes-padded}
use Rattle.node_store.proofs.store.NodeStore.drop_node.Goals as goal

pub invariant_of-self : goal.invariant_of-self
invariant_of-self g c =
    let live = live_used c.self.inside.slots.items c.self.inside.fresh c.args.id (rw (← c.self.view_is) at c.requires) in
    rw (c.take.ensures.after, c.push_reserved.ensures.items, c.push_reserved.ensures.capacity) (sound_drop _ _ _ _ _ c.args.id c.self.invariant live)

pub returns-clause-changes : goal.returns-clause-changes
returns-clause-changes g c =
    let slots = c.self.inside.slots.items in
    let live = live_used slots c.self.inside.fresh c.args.id (rw (← c.self.view_is) at c.requires) in
    rw (← c.self.view_is, c.take.ensures.after) (changes-padded slots _ _ _ _ _ c.args.id None (get_or-set_same slots c.args.id None None (live_within slots c.args.id live)) (λ other differs. get_or-set_other slots c.args.id other None None differs))
