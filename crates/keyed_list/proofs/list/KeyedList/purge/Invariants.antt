use Rattle.std.proofs.Common.{◌≡◌, ◌≤◌, ◌+◌, filter, length}
use Rattle.keyed_list.specs.Keyed.{is_young}
use Rattle.keyed_list.proofs.list.KeyedList.purge.Given as goal

abbrev pub invariant-loop-place : goal.invariant-loop-place
invariant-loop-place g l =
    (filter (is_young g.T.Keyed.marks_of l.now l.life) l.self.items ≡ filter (is_young g.T.Keyed.marks_of l.now l.life) l.fn.self.items)
    × (l.fn.self.room ≤ l.self.room)
    × (length l.self.items + l.self.room ≤ length l.fn.self.items + l.fn.self.room)
    × (l.self.places ≡ l.fn.self.places)

abbrev pub decreases-loop-place : goal.decreases-loop-place
decreases-loop-place g l = length l.self.items
