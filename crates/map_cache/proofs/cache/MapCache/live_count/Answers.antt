use Rattle.std.proofs.Common.{length, ap, arith}
use Rattle.map_cache.specs.Cache.{Cache}
use Rattle.map_cache.proofs.FullLemmas.{length-lasting}
use Rattle.map_cache.proofs.cache.MapCache.live_count.Goals as goal

pub overflow_add-count : goal.overflow_add-count
overflow_add-count c =
    let same = ap (λ (cache : Cache). length cache.mappings) c.self.view_is in
    omega (arith, c.loop-mapping.invariant, length-lasting c.args.m c.args.self.now.mappings, same, c.self.invariant.0)

pub returns-clause-most : goal.returns-clause-most
returns-clause-most c =
    let same = ap (λ (cache : Cache). length cache.mappings) c.self.view_is in
    omega (arith, c.loop-mapping.invariant, length-lasting c.args.m c.args.self.now.mappings, same, c.self.invariant.0)
