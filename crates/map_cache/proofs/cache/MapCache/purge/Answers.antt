use Rattle.std.proofs.Common.{length, sym, subst, ap, arith}
use Rattle.map_cache.specs.Cache.{lasts}
use Rattle.map_cache.specs.Lists.{AllLast}
use Rattle.map_cache.proofs.FullLemmas.{few-filter}
use Rattle.map_cache.proofs.LastingLemmas.{AllLast-lasting}
use Rattle.map_cache.proofs.cache.MapCache.purge.Goals as goal

pub invariant_of-self : goal.invariant_of-self
invariant_of-self c =
    let items = c.self.inside.indexed.mappings in
    let left = c.drop_ended.ensures.mappings in
    let same = ap length left in
    let few = few-filter (lasts c.args.m) items _ c.self.invariant.0 in (
      omega (arith, same, few),
      subst (AllLast c.args.m) (sym left) (AllLast-lasting c.args.m items),
    )
