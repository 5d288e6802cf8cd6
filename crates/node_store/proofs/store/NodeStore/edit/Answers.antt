use Rattle.std.proofs.Common.{refl, ap, ◌∙◌}
use Rattle.node_store.specs.Store.{with_node}
use Rattle.node_store.proofs.SlotLemmas.{live_used, live_within, node_read, with_node-padded, sound_edit}
use Rattle.node_store.proofs.store.NodeStore.edit.Goals as goal

pub invariant_of-self-lent : goal.invariant_of-self-lent
invariant_of-self-lent g c w =
    sound_edit _ _ _ _ _ c.args.id w c.self.invariant (live_used c.self.inside.slots.items c.self.inside.fresh c.args.id (rw (← c.self.view_is) at c.requires))

pub returns : goal.returns
returns g c =
    let slots = c.self.inside.slots.items in
    let live = live_used slots c.self.inside.fresh c.args.id (rw (← c.self.view_is) at c.requires) in (
      (refl {a = c.node_mut.result.ghost_name}, λ w. with_node-padded slots c.self.inside.fresh _ c.args.id w live ∙ ap (λ store. with_node store c.args.id w) c.self.view_is),
      record { writes_back = tt; node = rw (← c.self.view_is) (node_read slots c.self.inside.fresh c.args.id c.index_mut.result.now c.node_mut.result.now c.index_mut.ensures.value c.node_mut.ensures.node (live_within slots c.args.id live)) },
    )
