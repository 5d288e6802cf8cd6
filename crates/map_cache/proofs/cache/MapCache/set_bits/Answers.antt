use Rattle.std.proofs.Common.{length, sym, subst, ap, arith}
use Rattle.std.proofs.lemmas.List.{length-map}
use Rattle.map_cache.specs.Cache.{told_mapping}
use Rattle.map_cache.specs.Lists.{AllLast}
use Rattle.map_cache.proofs.LastingLemmas.{AllLast-told}
use Rattle.map_cache.proofs.cache.MapCache.set_bits.Goals as goal

pub invariant_of-self : goal.invariant_of-self
invariant_of-self c =
    let told = c.tell.ensures.mappings in
    let items = c.self.inside.indexed.mappings in
    let same = ap length told in
    let mapped = length-map items (told_mapping c.args.eid.now c.args.bits c.args.width) in (
      omega (arith, same, mapped, c.self.invariant.0),
      subst (AllLast c.self.inside.now) (sym told) (AllLast-told c.self.inside.now c.args.eid.now c.args.bits c.args.width items c.self.invariant.1),
    )
