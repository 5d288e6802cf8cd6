use Rattle.std.proofs.Common.{None, sym, ◌∙◌}
use Rattle.node_store.proofs.SlotLemmas.{get_or-padded}
use Rattle.node_store.proofs.store.NodeStore.make_room.Goals as goal

pub returns-clause-nodes : goal.returns-clause-nodes
returns-clause-nodes g c name =
    let slots = c.self.inside.slots.items in
    rw (c.reserve.ensures.items, ← c.self.view_is) (get_or-padded slots _ name None ∙ sym (get_or-padded slots c.self.inside.fresh name None))
