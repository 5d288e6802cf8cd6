-- What the trie tells of mappings: how long they last, and what it is once one is put at a place or taken from it.
use Rattle.std.proofs.Common.{◌≡◌, ◌<◌, ◌-◌, ◌^◌, ◌||◌, ℕ, zero, suc, Bool, true, false, cond, nat_lt, List, [], ◌∷◌, length, insert, remove, None, Less, is_lt, refl, sym, ap, ◌∙◌, arith, lt-ltb, ltb-true}
use Rattle.std.specs.Ordering.{ordering_reverse}
use Rattle.std.proofs.lemmas.Cmp.{tied_back}
use Rattle.mapping_records.proofs.OrderLemmas.{eid_order-total}
use Rattle.mapping_records.specs.Orders.{eid_order}
use Rattle.mapping_records.specs.declared.eid.Eid.{Eid}
use Rattle.prefix_table.specs.Pairs.{is_below, value_in, with_pair, without_pair}
use Rattle.map_cache.specs.Cache.{lasts}
use Rattle.map_cache.specs.Indexed.{all_stays, stay_lasts, stay_of}
use Rattle.map_cache.specs.declared.stay.Stay.{Stay}
use Rattle.map_cache.specs.declared.mapping.Mapping.{Mapping}
use Rattle.map_cache.proofs.PlaceOfLemmas.{IsAbsent, IsThere}

-- what is told of a mapping lasts as long as the mapping
pub stay-lasts : (now name : ℕ) (x : Mapping) → now < 2 ^ 64 → stay_lasts now (stay_of name x).1 ≡ lasts now x
stay-lasts now name x within = by x.fixed (nat_lt (2 ^ 64 - 1) x.end) refl
  where
    by : (fixed late : Bool) → nat_lt (2 ^ 64 - 1) x.end ≡ late → ((fixed || late) || nat_lt now (cond (fixed || late) 0 x.end)) ≡ (fixed || nat_lt now x.end)
    by true late is = refl
    by false true is = sym (lt-ltb now x.end (omega (arith, within, ltb-true (2 ^ 64 - 1) x.end is)))
    by false false is = refl

-- what is above isn't below
not-back : (a b : Eid) → eid_order a b ≡ Less → is_below b a ≡ false
not-back a b less = ap is_lt (eid_order-total.antisymm b a ∙ ap ordering_reverse less)

-- the mapping of the EID is taken from the place
pub stay-remove : (eid : Eid) (names : List ℕ) (items : List Mapping) (n : ℕ) → length names ≡ length items → IsThere eid items n → all_stays (remove names n) (remove items n) ≡ without_pair eid (all_stays names items)
stay-remove eid names [] n same there = elim there [ ]
stay-remove eid [] (y ∷ items) n same there = absurd (omega (arith, same))
stay-remove eid (name ∷ names) (y ∷ items) zero same there =
    rw (ap is_lt there.0, ap is_lt (tied_back eid_order-total y.eid eid there.0)) refl
stay-remove eid (name ∷ names) (y ∷ items) (suc n) same there =
    ap (λ l. stay_of name y ∷ l) (stay-remove eid names items n (omega (arith, same)) there.1)
    ∙ ap (λ b. cond b (stay_of name y ∷ without_pair eid (all_stays names items)) (cond (is_below eid y.eid) (all_stays (name ∷ names) (y ∷ items)) (all_stays names items))) (sym (ap is_lt there.0))

-- a mapping is put at its place
pub stay-insert : (name : ℕ) (x : Mapping) (names : List ℕ) (items : List Mapping) (n : ℕ) → length names ≡ length items → IsAbsent x.eid items n → all_stays (insert names n name) (insert items n x) ≡ with_pair x.eid (stay_of name x).1 (all_stays names items)
stay-insert name x [] [] zero same absent = refl
stay-insert name x [] [] (suc n) same absent = elim absent [ ]
stay-insert name x [] (y ∷ items) n same absent = absurd (omega (arith, same))
stay-insert name x (m ∷ names) [] n same absent = absurd (omega (arith, same))
stay-insert name x (m ∷ names) (y ∷ items) zero same absent =
    rw (not-back x.eid y.eid absent.0, ap is_lt absent.0) refl
stay-insert name x (m ∷ names) (y ∷ items) (suc n) same absent =
    let stay : Stay = (stay_of name x).1 in
    ap (λ l. stay_of m y ∷ l) (stay-insert name x names items n (omega (arith, same)) absent.1)
    ∙ ap (λ b. cond b (stay_of m y ∷ with_pair x.eid stay (all_stays names items)) (cond (is_below x.eid y.eid) ((x.eid, stay) ∷ all_stays (m ∷ names) (y ∷ items)) ((x.eid, stay) ∷ all_stays names items))) (sym (ap is_lt absent.0))

-- nothing is told of an EID of which there is no mapping
pub value-absent : (eid : Eid) (names : List ℕ) (items : List Mapping) (n : ℕ) → IsAbsent eid items n → value_in eid (all_stays names items) ≡ None
value-absent eid [] items n absent = refl
value-absent eid (name ∷ names) [] n absent = refl
value-absent eid (name ∷ names) (x ∷ items) zero absent = rw (not-back eid x.eid absent.0, ap is_lt absent.0) refl
value-absent eid (name ∷ names) (x ∷ items) (suc n) absent =
    rw (ap is_lt absent.0) (value-absent eid names items n absent.1)

-- and nothing goes of it
pub without-absent-pair : (eid : Eid) (names : List ℕ) (items : List Mapping) (n : ℕ) → IsAbsent eid items n → without_pair eid (all_stays names items) ≡ all_stays names items
without-absent-pair eid [] items n absent = refl
without-absent-pair eid (name ∷ names) [] n absent = refl
without-absent-pair eid (name ∷ names) (x ∷ items) zero absent = rw (not-back eid x.eid absent.0, ap is_lt absent.0) refl
without-absent-pair eid (name ∷ names) (x ∷ items) (suc n) absent =
    rw (ap is_lt absent.0) (ap (λ l. stay_of name x ∷ l) (without-absent-pair eid names items n absent.1))
