use Rattle.std.proofs.Common.{◌≡◌, ◌+◌}
use Rattle.map_cache.specs.Cache.{lasting, learned_in}
use Rattle.map_cache.proofs.indexed.Indexed.counted_in.Given as goal

-- those so far and those to come are all that last
abbrev pub invariant-loop-mapping : goal.invariant-loop-mapping
invariant-loop-mapping l =
    l.count + learned_in l.iid (lasting l.m l.mapping-iterator) ≡ learned_in l.iid (lasting l.m l.self.mappings)
