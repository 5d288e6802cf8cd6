use Rattle.std.proofs.Common.{◌≡◌, ◌<◌, ℕ, All, List, length, map, IfSome}
use Rattle.std.specs.Fn.{FnReturnsAt}
use Rattle.keyed_list.specs.Keyed.{item_at, Ascends, IsKeyed, IsLinked}
use Rattle.keyed_list.specs.declared.key.Age.{Age}
use Rattle.keyed_list.specs.declared.key.Mark.{Mark}
use Rattle.keyed_list.proofs.ChangeLemmas.{changed_from}
use Rattle.keyed_list.proofs.WalkLemmas.{above, IsWalk}
use Rattle.keyed_list.proofs.changing.change_from.Given as goal

abbrev pub invariant-loop-next : goal.invariant-loop-next
invariant-loop-next g l =
    Ascends l.list.items
    × IsLinked g.T.Keyed.marks_of l.key l.list.items
    × ((index : List Mark) (ages : List Age) → IsKeyed g.T.Keyed.marks_of l.initial.list.items index ages → IsKeyed g.T.Keyed.marks_of l.list.items index ages)
    × ((bound : ℕ) → All (λ numbered. numbered.number < bound) l.initial.list.items → All (λ numbered. numbered.number < bound) l.list.items)
    × (length l.list.items ≡ length l.initial.list.items)
    × (l.list.spare ≡ l.initial.list.spare)
    × IfSome l.next (λ place. place < length l.list.items)
    × IsWalk g.T.Keyed.marks_of l.key l.list.items l.next (λ bound.
    (changed : g.row.T.Denot → g.row.T.Denot)
    → ((item new : g.row.T.Denot) → FnReturnsAt g.F.Fn l.fn.change item new → new ≡ changed item)
    → l.list.items ≡ map (changed_from g.T.Keyed.marks_of l.key bound changed) l.initial.list.items)

abbrev pub decreases-loop-next : goal.decreases-loop-next
decreases-loop-next g l = above (item_at l.list.items l.next)
