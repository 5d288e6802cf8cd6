use Rattle.std.proofs.Common.{◌≤◌, ◌+◌, length, ◌∙◌, ap, arith}
use Rattle.prefix_table.specs.Limits.{most_pairs}
use Rattle.prefix_table.specs.Table.{pairs_under}
use Rattle.prefix_table.proofs.FieldLemmas.{table_reserved, under_same, room_for}
use Rattle.prefix_table.proofs.table.PrefixTable.reserve.Goals as goal

pub overflow_sub-self-inside : goal.overflow_sub-self-inside
overflow_sub-self-inside g c =
    let most = room_for _ _ _ _ _ c.self.invariant in
    omega (arith, most.3, c.self.inside.roots.ok.0)

pub invariant_of-self-2 : goal.invariant_of-self-2
invariant_of-self-2 g c =
    let t = c.self.invariant in
    let pairs_len : length (pairs_under c.self.inside.store c.self.inside.roots.items) + c.args.n ≤ most_pairs = rw (← c.self.view_is) at c.requires in
    table_reserved _ _ c.make_room.ensures.nodes _ _ _ _ _ _ _ t c.reserve.ensures.items
    (omega (arith, c.make_room.ensures.slots, c.rooms-rooms.ensures.slots, c.rooms-rooms.ensures.rooms))
    (omega (arith, t.slots, c.make_room.ensures.slots, c.rooms-rooms.ensures.slots, c.rooms-rooms.ensures.rooms, c.in_ok-make_room.ensures.ok))
    (omega (arith, c.reserve.ensures.len, c.in_ok-reserve.ensures.ok, c.self.inside.roots.ok.0))
    (omega (arith, t.counted, pairs_len))

pub returns-clause-pairs : goal.returns-clause-pairs
returns-clause-pairs g c =
    rw (← c.self.view_is) (ap (pairs_under c.make_room.new.self) c.reserve.ensures.items ∙ under_same _ _ c.make_room.ensures.nodes _)
