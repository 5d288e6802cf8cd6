use Rattle.std.proofs.Common.{◌≡◌, ◌≤◌, ◌||◌, true, not, length, nat_lt, is_some, List, sym, ap, subst, ◌∙◌, arith, ne_eqb}
use Rattle.mapping_records.specs.Eids.{same_eid}
use Rattle.mapping_records.specs.Orders.{eid_order, put_in_order}
use Rattle.mapping_records.specs.declared.eid.Eid.{Eid}
use Rattle.map_cache.specs.Cache.{Cache, exact, fresh, lasting, lasts, without_eid}
use Rattle.map_cache.specs.Lists.{AllLast, IsFew}
use Rattle.map_cache.specs.Limits.{most_mappings}
use Rattle.map_cache.specs.declared.mapping.Mapping.{Mapping}
use Rattle.map_cache.proofs.FullLemmas.{few-filter, few-put, learned-put, length-lasting, within_all}
use Rattle.map_cache.proofs.LastingLemmas.{AllLast-filter, AllLast-put, fresh-lasts}
use Rattle.map_cache.proofs.cache.MapCache.learn.Goals as goal

pub invariant_of-self : goal.invariant_of-self
invariant_of-self c =
    let items = c.self.inside.indexed.mappings in
    let left = c.drop_eid.ensures.mappings in
    let other = λ (x : Mapping). not (same_eid x.eid c.args.mapping.eid) in
    let same = ap length left in
    let few = few-filter other items _ c.self.invariant.0 in (
      omega (arith, same, few),
      subst (AllLast c.self.inside.now) (sym left) (AllLast-filter c.self.inside.now other items c.self.invariant.1),
    )

pub invariant_of-self-2 : goal.invariant_of-self-2
invariant_of-self-2 c =
    let x = c.fresh-mapping.result in
    let items = c.reserve.new.self.mappings in
    let kept : items ≡ c.self.inside.indexed.mappings = c.reserve.ensures.mappings in
    let put : c.put.new.self.mappings ≡ put_in_order (λ i. i.eid) eid_order x (without_eid x.eid items) = c.put.ensures.mappings in
    let other = λ (i : Mapping). not (same_eid i.eid x.eid) in
    let same : c.self.inside.now ≡ c.args.m = ap (λ (cache : Cache). cache.now) c.self.view_is ∙ c.purge.ensures.now in
    let lasting_one : lasts c.self.inside.now x ≡ true = ap (λ now. lasts now x) same ∙ ap (lasts c.args.m) c.fresh-mapping.ensures ∙ fresh-lasts c.args.m c.args.mapping c.args.fixed (ne_eqb c.args.mapping.ttl 0 c.if-mapping-eq0.false) in
    let now_few : length items ≤ most_mappings = subst (λ (l : List Mapping). length l ≤ most_mappings) (sym kept) c.self.invariant.0 in
    let now_last : AllLast c.self.inside.now items = subst (AllLast c.self.inside.now) (sym kept) c.self.invariant.1 in
    let purged : List Mapping = c.purge.new.self.mappings in
    let now_kept : items ≡ purged = kept ∙ ap (λ (cache : Cache). cache.mappings) c.self.view_is in
    let here : (is_some (exact purged c.args.mapping.eid) || nat_lt (length purged) most_mappings) ≡ true = within_all (is_some (exact purged c.args.mapping.eid)) (nat_lt (length purged) most_mappings) _ (sym c.has_place.ensures ∙ c.if-not-has_place.false) in
    let eid : x.eid ≡ c.args.mapping.eid = ap (λ (i : Mapping). i.eid) c.fresh-mapping.ensures in
    let place : (is_some (exact items x.eid) || nat_lt (length items) most_mappings) ≡ true =
    ap (λ (l : List Mapping). is_some (exact l x.eid) || nat_lt (length l) most_mappings) now_kept
    ∙ ap (λ (e : Eid). is_some (exact purged e) || nat_lt (length purged) most_mappings) eid
    ∙ here in (
      subst (λ (l : List Mapping). length l ≤ most_mappings) (sym put) (few-put x items most_mappings now_few place),
      subst (AllLast c.self.inside.now) (sym put) (AllLast-put c.self.inside.now x (without_eid x.eid items) lasting_one (AllLast-filter c.self.inside.now other items now_last)),
    )

pub put-requires-clause-locators : goal.put-requires-clause-locators
put-requires-clause-locators c = subst IsFew (sym c.fresh-mapping.ensures) c.requires.locators

pub returns-clause-ok : goal.returns-clause-ok
returns-clause-ok c =
    let kept : c.reserve.new.self.mappings ≡ lasting c.args.m c.args.self.now.mappings = c.reserve.ensures.mappings ∙ ap (λ (cache : Cache). cache.mappings) c.self.view_is ∙ c.purge.ensures.mappings in
    let is : c.fresh-mapping.result ≡ fresh c.args.m c.args.mapping c.args.fixed = c.fresh-mapping.ensures in
    c.put.ensures.mappings
    ∙ ap (λ (x : Mapping). put_in_order (λ (i : Mapping). i.eid) eid_order x (without_eid x.eid c.reserve.new.self.mappings)) is
    ∙ ap (λ (l : List Mapping). put_in_order (λ (i : Mapping). i.eid) eid_order (fresh c.args.m c.args.mapping c.args.fixed) (without_eid c.args.mapping.eid l)) kept
    ∙ sym (learned-put c.args.m c.args.mapping c.args.fixed c.args.self.now.mappings (ne_eqb c.args.mapping.ttl 0 c.if-mapping-eq0.false))

pub returns-in_err-reserve-clause-mapping_places : goal.returns-in_err-reserve-clause-mapping_places
returns-in_err-reserve-clause-mapping_places c =
    let purged = rw (← c.self.view_is) at c.purge.ensures in
    omega (arith, length-lasting c.args.m c.args.self.now.mappings, ap length purged.mappings, purged.mapping_places, c.reserve.ensures.mapping_places)

pub returns-clause-mapping_places : goal.returns-clause-mapping_places
returns-clause-mapping_places c =
    let purged = rw (← c.self.view_is) at c.purge.ensures in
    omega (arith, length-lasting c.args.m c.args.self.now.mappings, ap length purged.mappings, purged.mapping_places, c.reserve.ensures.mapping_places, c.put.ensures.mapping_places)

pub returns-clause-total : goal.returns-clause-total
returns-clause-total c =
    let purged = rw (← c.self.view_is) at c.purge.ensures in
    omega (arith, ap length purged.mappings, purged.total, ap length c.reserve.ensures.mappings, c.reserve.ensures.at_most, c.put.ensures.total)

pub returns-in_err-reserve-clause-total : goal.returns-in_err-reserve-clause-total
returns-in_err-reserve-clause-total c =
    let purged = rw (← c.self.view_is) at c.purge.ensures in
    omega (arith, ap length purged.mappings, purged.total, ap length c.reserve.ensures.mappings, c.reserve.ensures.at_most)
