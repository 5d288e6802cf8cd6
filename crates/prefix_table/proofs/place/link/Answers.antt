use Rattle.std.proofs.Common.{not, refl, sym, ap, ◌∙◌}
use Rattle.prefix_table.specs.Nodes.{linked_sides, node_with}
use Rattle.prefix_table.specs.Sides.{on_side, sides}
use Rattle.prefix_table.proofs.NodesLemmas.{live_kept, can_link, linked-relinked, link_becomes, link_whole, edit_length}
use Rattle.prefix_table.proofs.place.link.Goals as goal

pub edit-way-requires : goal.edit-way-requires
edit-way-requires g c = live_kept c.store.inside.ways c.store.inside.contents.items c.args.at (rw (← c.store.view_is) at c.requires.live)

pub link_to-requires : goal.link_to-requires
link_to-requires g c =
    can_link c.store.inside.ways c.store.inside.contents.items c.args.below c.store.invariant (rw (← c.store.view_is) at c.requires.below)

pub invariant_of-store : goal.invariant_of-store
invariant_of-store g c =
    let way = c.edit-way.result.now in
    link_whole c.store.inside.ways c.store.inside.contents.items c.args.at way (record way { next = c.set.new.self }) c.store.invariant c.edit-way.ensures.node refl refl

pub returns-clause-changes : goal.returns-clause-changes
returns-clause-changes g c =
    let way = c.edit-way.result.now in
    let next = ap linked_sides c.set.ensures ∙ linked-relinked c.args.side way.next c.link_to.result c.args.below c.link_to.ensures in
    rw (← c.store.view_is) (link_becomes c.store.inside.ways c.store.inside.contents.items c.args.at way (record way { next = c.set.new.self }) c.store.invariant c.edit-way.ensures.node (λ top. record top { next = sides c.args.side c.args.below (on_side (not c.args.side) top.next) }) (λ content. ap (node_with content) (sym next)))

pub returns-clause-slots : goal.returns-clause-slots
returns-clause-slots g c =
    rw (← c.store.view_is) (edit_length c.store.inside.ways c.store.inside.contents.items c.store.inside.contents.items c.args.at c.edit-way.result.now _)
