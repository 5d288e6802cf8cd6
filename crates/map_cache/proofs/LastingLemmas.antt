-- Mappings that all last at a moment.
use Rattle.std.proofs.Common.{◌≡◌, ◌<◌, ◌*◌, ℕ, ◌==◌, Bool, true, false, cond, List, [], ◌∷◌, filter, map, is_lt, refl, ap, ◌∙◌, arith}
use Rattle.std.proofs.lemmas.Bool.Decides.{nat_tests}
use Rattle.mapping_records.specs.Eids.{same_eid}
use Rattle.mapping_records.specs.Orders.{eid_order, put_in_order}
use Rattle.mapping_records.specs.declared.eid.Eid.{Eid}
use Rattle.mapping_records.specs.declared.record.Record.{Record}
use Rattle.map_cache.specs.Lists.{AllLast}
use Rattle.map_cache.specs.Cache.{fresh, lasting, lasts, lifetime, told_mapping, with_bits}
use Rattle.map_cache.specs.declared.mapping.Mapping.{Mapping}

-- what lasts, all lasts
pub AllLast-lasting : (now : ℕ) (items : List Mapping) → AllLast now (lasting now items)
AllLast-lasting now [] = tt
AllLast-lasting now (x ∷ items) = by (lasts now x) refl (AllLast-lasting now items)
  where
    by : (b : Bool) → lasts now x ≡ b → AllLast now (lasting now items) → AllLast now (cond b (x ∷ lasting now items) (lasting now items))
    by true is h = (is, h)
    by false is h = h

-- where all last, nothing goes
pub lasting-all : (now : ℕ) (items : List Mapping) → AllLast now items → lasting now items ≡ items
lasting-all now [] all = refl
lasting-all now (x ∷ items) all = ap (λ b. cond b (x ∷ lasting now items) (lasting now items)) all.0 ∙ ap (λ l. x ∷ l) (lasting-all now items all.1)

pub AllLast-filter : (now : ℕ) (test : Mapping → Bool) (items : List Mapping) → AllLast now items → AllLast now (filter test items)
AllLast-filter now test [] all = tt
AllLast-filter now test (x ∷ items) all = by (test x) (AllLast-filter now test items all.1)
  where
    by : (b : Bool) → AllLast now (filter test items) → AllLast now (cond b (x ∷ filter test items) (filter test items))
    by true h = (all.0, h)
    by false h = h

pub AllLast-put : (now : ℕ) (x : Mapping) (items : List Mapping) → lasts now x ≡ true → AllLast now items → AllLast now (put_in_order (λ i. i.eid) eid_order x items)
AllLast-put now x [] is all = (is, tt)
AllLast-put now x (i ∷ items) is all = by (is_lt (eid_order x.eid i.eid)) (AllLast-put now x items is all.1)
  where
    by : (b : Bool) → AllLast now (put_in_order (λ y. y.eid) eid_order x items) → AllLast now (cond b (x ∷ i ∷ items) (i ∷ put_in_order (λ y. y.eid) eid_order x items))
    by true h = (is, all)
    by false h = (all.0, h)

told-lasts : (now : ℕ) (eid : Eid) (bits width : ℕ) (x : Mapping) → lasts now (told_mapping eid bits width x) ≡ lasts now x
told-lasts now eid bits width x = by (same_eid x.eid eid)
  where
    by : (b : Bool) → lasts now (cond b (with_bits bits width x) x) ≡ lasts now x
    by true = refl
    by false = refl

pub AllLast-told : (now : ℕ) (eid : Eid) (bits width : ℕ) (items : List Mapping) → AllLast now items → AllLast now (map (told_mapping eid bits width) items)
AllLast-told now eid bits width [] all = tt
AllLast-told now eid bits width (x ∷ items) all = (told-lasts now eid bits width x ∙ all.0, AllLast-told now eid bits width items all.1)

some-minutes : (ttl : ℕ) → (ttl == 0) ≡ false → 0 < lifetime ttl
some-minutes ttl is = by (ttl == 0xffffffff)
  where
    by : (b : Bool) → 0 < 60 * cond b 1440 ttl * 1000000000
    by true = omega arith
    by false = grind (arith, nat_tests, is)

-- a mapping that was just learned lasts, where its TTL isn't 0
pub fresh-lasts : (now : ℕ) (mapping : Record) (fixed : Bool) → (mapping.ttl == 0) ≡ false → lasts now (fresh now mapping fixed) ≡ true
fresh-lasts now mapping true is = refl
fresh-lasts now mapping false is = let long = some-minutes mapping.ttl is in grind (arith, nat_tests, long)
