use Rattle.std.proofs.Common.{◌≡◌, ◌++◌, All, length}
use Rattle.prefix_table.specs.Stacked.{stacked, AreUnder}
use Rattle.prefix_table.specs.Table.{pairs_under, IsRootIn}
use Rattle.prefix_table.proofs.iter.IterIterator.next.Given as goal

-- none was passed over
abbrev pub invariant-loop-pair : goal.invariant-loop-pair
invariant-loop-pair g l =
    AreUnder l.self-inside.store.now 0 l.self-inside.stack
    × All (IsRootIn l.self-inside.store.now) l.self-inside.roots.now
    × (stacked l.self-inside.store.now l.self-inside.stack ++ pairs_under l.self-inside.store.now l.self-inside.roots.now ≡ l.fn.self)

abbrev pub decreases-loop-pair : goal.decreases-loop-pair
decreases-loop-pair g l = length l.self-inside.roots.now
