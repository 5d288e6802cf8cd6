use Rattle.std.proofs.Common.{None, arith, refl, sym, ◌∙◌}
use Rattle.prefix_table.proofs.NodesLemmas.{length-slots_with, live_kept, within_contents, read_there, content_at, dropped_changes, dropped_whole}
use Rattle.prefix_table.proofs.place.drop_value.Goals as goal

pub drop_node-requires : goal.drop_node-requires
drop_node-requires g c = live_kept c.store.inside.ways c.store.inside.contents.items c.args.at (rw (← c.store.view_is) at c.requires)

pub index_mut-requires : goal.index_mut-requires
index_mut-requires g c =
    omega (arith, within_contents c.store.inside.ways c.store.inside.contents.items c.args.at c.store.invariant (rw (← c.store.view_is) at c.requires), c.store.inside.contents.ok.0)

pub invariant_of-store : goal.invariant_of-store
invariant_of-store g c =
    let ways = c.store.inside.ways in
    let contents = c.store.inside.contents.items in
    let content = c.index_mut.result.now in
    let before = read_there ways contents c.args.at content c.store.invariant (rw (← c.store.view_is) at c.requires) c.index_mut.ensures.value in
    rw c.take.ensures.after (dropped_whole ways contents c.args.at c.drop_node.result content None c.store.invariant c.drop_node.ensures.node before c.drop_node.new.self c.drop_node.ensures.changes c.drop_node.ensures.slots refl)

pub returns-clause-was : goal.returns-clause-was
returns-clause-was g c top found =
    let ways = c.store.inside.ways in
    let contents = c.store.inside.contents.items in
    let content = c.index_mut.result.now in
    let before = read_there ways contents c.args.at content c.store.invariant (rw (← c.store.view_is) at c.requires) c.index_mut.ensures.value in
    let seen = content_at ways contents c.args.at content before top (rw (← c.store.view_is) at found) in
    c.take.ensures.value ∙ seen.value

pub returns-clause-changes : goal.returns-clause-changes
returns-clause-changes g c =
    let ways = c.store.inside.ways in
    let contents = c.store.inside.contents.items in
    let content = c.index_mut.result.now in
    let before = read_there ways contents c.args.at content c.store.invariant (rw (← c.store.view_is) at c.requires) c.index_mut.ensures.value in
    rw (← c.store.view_is, c.take.ensures.after) (dropped_changes ways contents c.args.at c.drop_node.result content None c.store.invariant c.drop_node.ensures.node before c.drop_node.new.self c.drop_node.ensures.changes)

pub returns-clause-slots : goal.returns-clause-slots
returns-clause-slots g c =
    rw (← c.store.view_is) (length-slots_with c.drop_node.new.self.slots _ ∙ c.drop_node.ensures.slots ∙ sym (length-slots_with c.store.inside.ways.slots _))
