use Rattle.std.proofs.Common.{◌≡◌, take, vec_capacity}
use Rattle.node_store.proofs.copies.copied.Given as goal

abbrev pub invariant-loop-item : goal.invariant-loop-item
invariant-loop-item g l =
    (l.copy.items ≡ take l.item-index l.items.items) × (vec_capacity l.copy ≡ vec_capacity l.items)
