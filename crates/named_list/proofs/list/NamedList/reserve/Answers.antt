use Rattle.std.proofs.Common.{arith, ap, length, refl}
use Rattle.named_list.proofs.ItemsLemmas.{length-items_at}
use Rattle.named_list.proofs.ChangeLemmas.{named_same}
use Rattle.named_list.proofs.list.NamedList.reserve.Goals as goal

pub make_room-requires : goal.make_room-requires
make_room-requires g c =
    let len = length-items_at c.self.inside.store c.self.inside.order.names c.self.invariant.each in
    omega (arith, len, rw (← c.self.view_is) at c.requires, c.rooms-rooms.ensures.rooms, c.rooms-rooms.ensures.slots, c.self.invariant.all)

pub invariant_of-self-in-Continue-branch-2 : goal.invariant_of-self-in-Continue-branch-2
invariant_of-self-in-Continue-branch-2 g c =
    rw (c.reserve.ensures.names) (named_same c.self.inside.store c.make_room.new.self c.self.inside.order.names _ _ c.self.invariant c.make_room.ensures.nodes
    (omega (arith, c.make_room.ensures.slots, c.rooms-rooms.ensures.rooms, c.rooms-rooms.ensures.slots, c.self.invariant.all))
    (omega (arith, c.in_ok-make_room.ensures.ok, c.in_ok-reserve.ensures.ok, c.if-n-rooms.true, c.rooms-rooms.ensures.rooms, ap length c.reserve.ensures.names)))

pub invariant_of-self-in_err-make_room : goal.invariant_of-self-in_err-make_room
invariant_of-self-in_err-make_room g c =
    let rooms = ap (λ store. store.rooms) c.in_err-make_room.ensures.err in
    rw (c.reserve.ensures.names) (named_same c.self.inside.store c.make_room.new.self c.self.inside.order.names _ _ c.self.invariant c.make_room.ensures.nodes
    (omega (arith, c.make_room.ensures.slots, c.rooms-rooms.ensures.rooms, c.rooms-rooms.ensures.slots, c.self.invariant.all))
    (omega (arith, rooms, c.in_ok-reserve.ensures.ok, c.if-n-rooms.true, c.rooms-rooms.ensures.rooms, ap length c.reserve.ensures.names)))

pub returns-in_err-reserve-clause-places : goal.returns-in_err-reserve-clause-places
returns-in_err-reserve-clause-places g c =
    let len = length-items_at c.self.inside.store c.self.inside.order.names c.self.invariant.each in
    rw (← c.self.view_is) (omega (arith, len, c.reserve.ensures.at_most))

pub returns-in_err-make_room-clause-places : goal.returns-in_err-make_room-clause-places
returns-in_err-make_room-clause-places g c =
    let len = length-items_at c.self.inside.store c.self.inside.order.names c.self.invariant.each in
    rw (← c.self.view_is) (omega (arith, len, c.reserve.ensures.at_most))

pub returns-in_ok-make_room-clause-places : goal.returns-in_ok-make_room-clause-places
returns-in_ok-make_room-clause-places g c =
    let len = length-items_at c.self.inside.store c.self.inside.order.names c.self.invariant.each in
    rw (← c.self.view_is) (omega (arith, len, c.reserve.ensures.at_most))

pub invariant_of-self : goal.invariant_of-self
invariant_of-self g c =
    rw (c.reserve.ensures.names) (named_same c.self.inside.store c.self.inside.store c.self.inside.order.names _ _ c.self.invariant (λ n. refl) c.self.invariant.all (omega (arith, c.self.invariant.place, c.reserve.ensures.places)))
