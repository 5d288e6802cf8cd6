use Rattle.std.proofs.Common.{◌≡◌, ◌+◌, count_by, is_some, take, vec_capacity}
use Rattle.node_store.proofs.copies.copied_slots.Given as goal

abbrev pub invariant-loop-name : goal.invariant-loop-name
invariant-loop-name g l =
    (l.slots.items ≡ take l.name l.store.slots)
    × (vec_capacity l.slots ≡ l.capacity)
    × (l.reads ≡ l.fn.reads + count_by is_some (take l.name l.store.slots))
