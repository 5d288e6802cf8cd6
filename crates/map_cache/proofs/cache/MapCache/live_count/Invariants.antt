use Rattle.std.proofs.Common.{◌≡◌, ◌+◌, length}
use Rattle.map_cache.specs.Cache.{lasting}
use Rattle.map_cache.proofs.cache.MapCache.live_count.Given as goal

-- those so far and those to come are all that last
abbrev pub invariant-loop-mapping : goal.invariant-loop-mapping
invariant-loop-mapping l = l.count + length (lasting l.m l.mapping-iterator) ≡ length (lasting l.m l.self.mappings)
