use Rattle.std.proofs.Common.{◌≡◌, ◌<◌, ◌-◌, true, length, slice_get, IfSome}
use Rattle.keyed_list.specs.Keyed.{is_key}
use Rattle.keyed_list.proofs.finding.place_last_like.Given as goal

abbrev pub invariant-loop-behind : goal.invariant-loop-behind
invariant-loop-behind g l =
    (l.last < length l.list.items)
    × IfSome (slice_get l.list.items l.last) (λ y. is_key g.T.Keyed.marks_of l.key y.item ≡ true)

abbrev pub decreases-loop-behind : goal.decreases-loop-behind
decreases-loop-behind g l = length l.list.items - l.last
