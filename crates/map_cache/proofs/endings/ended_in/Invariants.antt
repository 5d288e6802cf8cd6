use Rattle.std.proofs.Common.{◌≡◌, ◌≤◌, ◌-◌, count_by, length, take}
use Rattle.map_cache.specs.Indexed.{has_ended_in}
use Rattle.map_cache.proofs.endings.ended_in.Given as goal

-- those so far
abbrev pub invariant-loop-ending : goal.invariant-loop-ending
invariant-loop-ending l =
    (l.index ≤ length l.endings.keys)
    × (l.ended ≤ l.index)
    × (l.ended ≡ count_by (has_ended_in l.m l.iid) (take l.index l.endings.keys))

abbrev pub decreases-loop-ending : goal.decreases-loop-ending
decreases-loop-ending l = length l.endings.keys - l.index
