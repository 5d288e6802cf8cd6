use Rattle.std.proofs.Common.{arith, false, true, length, is_some, refl, sym, ap, ◌∙◌}
use Rattle.std.proofs.lemmas.Option.{slice_get_read}
use Rattle.prefix_table.specs.Keys.{key_len, key_of}
use Rattle.prefix_table.specs.declared.node.Way.{Way}
use Rattle.prefix_table.proofs.NodesLemmas.{length-slots_with, can_link, node_at-whole_none, vacant_at, filled, put_within, put_changes, put_whole}
use Rattle.prefix_table.proofs.nodes.Nodes.put.Goals as goal

pub link_to-requires : goal.link_to-requires
link_to-requires g c = can_link c.self.inside.ways c.self.inside.contents.items c.args.node.next.zero c.self.invariant (rw (← c.self.view_is) at (c.requires.next false))

pub link_to-requires-2 : goal.link_to-requires-2
link_to-requires-2 g c = can_link c.self.inside.ways c.self.inside.contents.items c.args.node.next.one c.self.invariant (rw (← c.self.view_is) at (c.requires.next true))

pub index_mut-requires : goal.index_mut-requires
index_mut-requires g c =
    omega (arith, put_within c.self.inside.ways c.put-name.new.self c.self.inside.contents.items c.put-name.result _ c.self.invariant c.put-name.ensures.changes c.put-name.ensures.slots, c.self.inside.contents.ok.0)

pub fill-requires : goal.fill-requires
fill-requires g c =
    let ways = c.self.inside.ways in
    let contents = c.self.inside.contents.items in
    let content = c.index_mut.result.now in
    let within = put_within ways c.put-name.new.self contents c.put-name.result _ c.self.invariant c.put-name.ensures.changes c.put-name.ensures.slots in
    vacant_at ways contents c.put-name.result content c.self.invariant c.put-name.ensures.fresh (slice_get_read contents (length contents) c.put-name.result content refl within c.index_mut.ensures.value)

pub invariant_of-self : goal.invariant_of-self
invariant_of-self g c =
    put_whole c.self.inside.ways c.put-name.new.self c.self.inside.contents.items c.put-name.result _ c.fill.new.content c.self.invariant c.put-name.ensures.changes c.put-name.ensures.slots (record {
      len = ap key_len (sym c.fill.ensures.eid);
      valued = c.is_some.ensures ∙ ap is_some (sym c.fill.ensures.value);
      key = c.fill.ensures.key ∙ ap key_of (sym c.fill.ensures.eid);
    })

pub returns-clause-fresh : goal.returns-clause-fresh
returns-clause-fresh g c =
    rw (← c.self.view_is) (node_at-whole_none c.self.inside.ways c.self.inside.contents.items c.put-name.result c.put-name.ensures.fresh)

pub returns-clause-changes : goal.returns-clause-changes
returns-clause-changes g c =
    let way : Way = record { next = record { zero = c.link_to.result; one = c.link_to-2.result }; len = c.args.node.eid.prefix.len; valued = c.is_some.result } in
    let is = filled c.fill.new.content way c.args.node c.fill.ensures.eid c.fill.ensures.value (rw (c.link_to.ensures, c.link_to-2.ensures) refl) in
    rw (← c.self.view_is, ← is) (put_changes c.self.inside.ways c.put-name.new.self c.self.inside.contents.items c.put-name.result way c.fill.new.content c.self.invariant c.put-name.ensures.changes c.put-name.ensures.slots)

pub returns-clause-slots : goal.returns-clause-slots
returns-clause-slots g c =
    rw (← c.self.view_is) (length-slots_with c.put-name.new.self.slots _ ∙ c.put-name.ensures.slots ∙ sym (length-slots_with c.self.inside.ways.slots _))
