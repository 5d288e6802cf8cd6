-- A cache with a place for a mapping isn't over its limit with it.
use Rattle.std.proofs.Common.{◌≡◌, ◌≤◌, ◌+◌, ◌<◌, ◌&&◌, ◌||◌, ◌==◌, ℕ, suc, true, false, Bool, cond, List, [], ◌∷◌, length, filter, is_some, nat_lt, not, refl, ap, arith}
use Rattle.std.proofs.lemmas.Bool.{ltb-true}
use Rattle.std.proofs.lemmas.List.Sums.{count_by-le-length, length-filter}
use Rattle.std.specs.Ordering.{is_lt}
use Rattle.std.specs.declared.cmp.Ordering.{Ordering}
use Rattle.mapping_records.specs.Orders.{eid_order, put_in_order}
use Rattle.mapping_records.specs.declared.record.Record.{Record}
use Rattle.map_cache.specs.Cache.{exact, fresh, lasting, lasts, learned, without_eid}
use Rattle.map_cache.specs.declared.mapping.Mapping.{Mapping}
use Rattle.map_cache.proofs.PlaceLemmas.{length-without_eid}

pub length-put : {I K : Type 0} (key : I → K) (order : K → K → Ordering) (x : I) (items : List I) → length (put_in_order key order x items) ≡ suc (length items)
length-put key order x [] = refl
length-put {I} key order x (i ∷ items) = by (is_lt (order (key x) (key i))) (length-put key order x items)
  where
    by : (b : Bool) → length (put_in_order key order x items) ≡ suc (length items) → length (cond b (x ∷ i ∷ items) (i ∷ put_in_order key order x items)) ≡ suc (suc (length items))
    by true h = refl
    by false h = ap suc h

pub few-filter : (test : Mapping → Bool) (items : List Mapping) (most : ℕ) → length items ≤ most → length (filter test items) ≤ most
few-filter test items most few =
    let same = length-filter test items in
    let less = count_by-le-length test items in omega (arith, same, less, few)

-- no more are left once those that have ended go
pub length-lasting : (m : ℕ) (items : List Mapping) → length (lasting m items) ≤ length items
length-lasting m items = few-filter (lasts m) items (length items) (omega arith)

below-most : (n most : ℕ) → nat_lt n most ≡ true → n < most
below-most n most h = ltb-true n most h

-- what is within all limits is within the limit of all
pub within_all : (there few within : Bool) → (there || (few && within)) ≡ true → (there || few) ≡ true
within_all true few within is = refl
within_all false true within is = refl
within_all false false within is = is

-- a mapping that is put where there is a place
pub few-put : (x : Mapping) (items : List Mapping) (most : ℕ) → length items ≤ most → (is_some (exact items x.eid) || nat_lt (length items) most) ≡ true → length (put_in_order (λ i. i.eid) eid_order x (without_eid x.eid items)) ≤ most
few-put x items most few place =
    let put = length-put (λ (i : Mapping). i.eid) eid_order x (without_eid x.eid items) in
    by (is_some (exact items x.eid)) place (length-without_eid x.eid items) put
  where
    by : (b : Bool) → (b || nat_lt (length items) most) ≡ true → length (without_eid x.eid items) + cond b 1 0 ≤ length items → length (put_in_order (λ (i : Mapping). i.eid) eid_order x (without_eid x.eid items)) ≡ suc (length (without_eid x.eid items)) → length (put_in_order (λ (i : Mapping). i.eid) eid_order x (without_eid x.eid items)) ≤ most
    by true h less put = omega (arith, less, put, few)
    by false h less put = let below : length items < most = below-most (length items) most h in omega (arith, below, less, put)

-- what is learned with a TTL is put in
pub learned-put : (m : ℕ) (mapping : Record) (fixed : Bool) (items : List Mapping) → (mapping.ttl == 0) ≡ false → learned m mapping fixed items ≡ put_in_order (λ i. i.eid) eid_order (fresh m mapping fixed) (without_eid mapping.eid (lasting m items))
learned-put m mapping fixed items stays =
    by fixed (mapping.ttl == 0) (put_in_order (λ (i : Mapping). i.eid) eid_order (fresh m mapping fixed) (without_eid mapping.eid (lasting m items))) stays
  where
    by : (b z : Bool) (put : List Mapping) → z ≡ false → cond (b || not z) put (without_eid mapping.eid (lasting m items)) ≡ put
    by true z put h = refl
    by false true put h = absurd (cc h)
    by false false put h = refl
