use Rattle.std.proofs.Common.{◌≡◌, true, List, length, nat_lt, ap, ap₂, ◌&&◌, ◌||◌, sym, ◌∙◌, arith, lt-ltb}
use Rattle.lisp_settings.specs.Instances.{mappings_in}
use Rattle.map_cache.specs.Cache.{learned_in}
use Rattle.map_cache.specs.Limits.{most_mappings}
use Rattle.map_cache.specs.declared.mapping.Mapping.{Mapping}
use Rattle.map_cache.proofs.LastingLemmas.{lasting-all}
use Rattle.map_cache.proofs.cache.MapCache.is_below_limits.Goals as goal

pub returns-else-fixed : goal.returns-else-fixed
returns-else-fixed c =
    let indexed = c.self.inside.indexed in
    let here = rw (← c.self.view_is) at c.has_place_in.ensures in
    let few : nat_lt (length indexed.mappings) most_mappings ≡ true = lt-ltb (length indexed.mappings) most_mappings (omega (arith, c.len.ensures.len, c.if-len-lt-MOST_MAPPINGS.true)) in
    let all = ap (λ (l : List Mapping). nat_lt (learned_in c.args.iid l) (mappings_in indexed.limits c.args.iid)) (lasting-all c.self.inside.now indexed.mappings c.self.invariant.1) in
    rw (← c.self.view_is) (here ∙ all ∙ sym (ap₂ (λ a b. a && (b || nat_lt (learned_in c.args.iid indexed.mappings) (mappings_in indexed.limits c.args.iid))) few c.if-fixed.false))
