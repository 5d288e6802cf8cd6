use Rattle.std.proofs.Common.{◌≡◌, ◌≤◌, ◌+◌, length}
use Rattle.map_cache.specs.Cache.{lasting}
use Rattle.map_cache.proofs.indexed.Indexed.drop_ended.Given as goal

-- those that last are the same
abbrev pub invariant-loop-eid : goal.invariant-loop-eid
invariant-loop-eid l =
    (lasting l.m l.self.mappings ≡ lasting l.m l.initial.self.mappings)
    × (l.initial.self.spare ≤ l.self.spare)
    × (length l.self.mappings + l.self.spare ≤ length l.initial.self.mappings + l.initial.self.spare)
    × (l.self.mapping_places ≤ l.initial.self.mapping_places)
    × (l.self.limits ≡ l.initial.self.limits)

abbrev pub decreases-loop-eid : goal.decreases-loop-eid
decreases-loop-eid l = length l.self.mappings
