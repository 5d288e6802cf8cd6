use Rattle.std.proofs.Common.{◌≡◌, ◌<◌, Bool, length, IfSome}
use Rattle.std.specs.Fn.{FnReturnsAt}
use Rattle.keyed_list.specs.Keyed.{item_at}
use Rattle.keyed_list.proofs.FitsLemmas.{NoneFrom, fits}
use Rattle.keyed_list.proofs.WalkLemmas.{above, IsWalk}
use Rattle.keyed_list.proofs.list.KeyedList.last.Given as goal

abbrev pub invariant-loop-next : goal.invariant-loop-next
invariant-loop-next g l =
    IsWalk g.T.Keyed.marks_of l.key l.self-inside.list.items l.next (λ bound.
    (passes : g.row.T.Denot → Bool)
    → ((item : g.row.T.Denot) (told : Bool) → FnReturnsAt g.F.Fn l.fn.test item told → told ≡ passes item)
    → NoneFrom (fits g.T.Keyed.marks_of l.key (λ y. passes y.item)) bound l.self-inside.list.items)
    × IfSome l.next (λ place. place < length l.self-inside.list.items)

abbrev pub decreases-loop-next : goal.decreases-loop-next
decreases-loop-next g l = above (item_at l.self-inside.list.items l.next)
