use Rattle.std.proofs.Common.{length, arith, ap}
use Rattle.prefix_table.proofs.NodesLemmas.{length-slots_with, live-whole, more_same, more_whole}
use Rattle.prefix_table.proofs.nodes.Nodes.make_room.Goals as goal

pub returns-then-n-rooms-clause-slots : goal.returns-then-n-rooms-clause-slots
returns-then-n-rooms-clause-slots g c =
    let ways = c.self.inside.ways in
    let contents = c.self.inside.contents.items in
    rw (← c.self.view_is) (omega (arith, length-slots_with ways.slots contents, live-whole ways contents c.self.invariant, c.rooms-rooms.ensures.slots, c.rooms-rooms.ensures.rooms))

pub returns-in_err-reserve-clause-slots : goal.returns-in_err-reserve-clause-slots
returns-in_err-reserve-clause-slots g c =
    let ways = c.self.inside.ways in
    rw (← c.self.view_is) (omega (arith, length-slots_with ways.slots c.reserve.new.self.items, live-whole ways c.self.inside.contents.items c.self.invariant, c.rooms-rooms.ensures.slots, c.rooms-rooms.ensures.rooms))

pub make_room-requires : goal.make_room-requires
make_room-requires g c =
    let ways = c.self.inside.ways in
    let contents = c.self.inside.contents.items in
    omega (arith, rw (← c.self.view_is) at c.requires, live-whole ways contents c.self.invariant)

pub returns-in_err-make_room-clause-slots : goal.returns-in_err-make_room-clause-slots
returns-in_err-make_room-clause-slots g c =
    let ways = c.self.inside.ways in
    rw (← c.self.view_is) (omega (arith, length-slots_with c.make_room.new.self.slots c.reserve.new.self.items, live-whole ways c.self.inside.contents.items c.self.invariant, c.make_room.ensures.slots))

pub invariant_of-self-2 : goal.invariant_of-self-2
invariant_of-self-2 g c =
    let ways = c.self.inside.ways in
    let contents = c.self.inside.contents.items in
    let old = c.self.invariant in
    let few = rw (← c.self.view_is) at c.requires in
    let added = c.add_contents.ensures in
    more_whole ways c.make_room.new.self contents c.add_contents.new.contents.items old c.make_room.ensures.nodes (rw (c.reserve.ensures.items) at added.kept)
    (omega (arith, added.len, c.len.ensures, ap length c.reserve.ensures.items, c.in_ok-make_room.ensures.ok, c.make_room.ensures.slots, c.rooms-rooms.ensures.slots, c.rooms-rooms.ensures.rooms, old.same_length, c.if-n-rooms.false))
    (omega (arith, few, live-whole ways contents old, c.in_ok-make_room.ensures.ok, c.make_room.ensures.slots, c.rooms-rooms.ensures.rooms, c.if-n-rooms.false))
    (rw (c.reserve.ensures.items) at added.vacant)

pub returns-clause-nodes : goal.returns-clause-nodes
returns-clause-nodes g c =
    rw (← c.self.view_is) (more_same c.self.inside.ways c.make_room.new.self c.self.inside.contents.items c.add_contents.new.contents.items c.self.invariant c.make_room.ensures.nodes (rw (c.reserve.ensures.items) at c.add_contents.ensures.kept))

pub returns-clause-slots : goal.returns-clause-slots
returns-clause-slots g c =
    let ways = c.self.inside.ways in
    rw (← c.self.view_is) (omega (arith, length-slots_with c.make_room.new.self.slots c.add_contents.new.contents.items, live-whole ways c.self.inside.contents.items c.self.invariant, c.make_room.ensures.slots))
