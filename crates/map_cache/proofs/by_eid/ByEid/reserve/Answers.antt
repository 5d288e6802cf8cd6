use Rattle.std.proofs.Common.{arith}
use Rattle.map_cache.proofs.FiledLemmas.{filed-length, filed-same, length-names_in, reserved-filed}
use Rattle.map_cache.proofs.by_eid.ByEid.reserve.Goals as goal

pub make_room-requires : goal.make_room-requires
make_room-requires c =
    let len = rw (← c.self.view_is) at c.requires.len in
    let same = filed-same c.self.inside.store c.self.inside.stays.pairs c.self.invariant in
    omega (arith, len, same, c.requires.n, c.rooms.ensures.slots, c.rooms.ensures.rooms, c.self.invariant.named.all)

pub reserve-requires : goal.reserve-requires
reserve-requires c =
    let len = rw (← c.self.view_is) at c.requires.len in
    let same = filed-length c.self.inside.store c.self.inside.stays.pairs c.self.invariant in
    omega (arith, len, same, c.requires.n)

pub invariant_of-self-2 : goal.invariant_of-self-2
invariant_of-self-2 c =
    let same = length-names_in c.self.inside.stays.pairs in
    rw c.reserve.ensures.pairs (reserved-filed c.self.inside.store c.make_room.new.self c.self.inside.stays.pairs c.self.invariant c.make_room.ensures.nodes (omega (arith, c.make_room.ensures.slots, c.rooms.ensures.slots, c.rooms.ensures.rooms, c.self.invariant.named.all)))
