-- Which mapping ended first, by the keys of those that end.
use Rattle.std.proofs.Common.{◌≡◌, ℕ, suc, ◌<◌, ◌≤◌, ◌==◌, ◌&&◌, ◌||◌, nat_lt, Bool, true, false, cond, not, List, [], ◌∷◌, length, filter, slice_get, None, Some, is_some, Ordering, Less, Equal, Greater, is_eq, nat_cmp, inl, inr, refl, sym, ap, subst, ◌∙◌, arith, ltb-true, ltb-false, lt-ltb, eq-eqb}
use Rattle.std.specs.List.{list_any}
use Rattle.std.specs.Ordering.{is_gt, ordering_then}
use Rattle.std.proofs.lemmas.Bool.{cases_Bool, and_from, and_parts, eqb-true}
use Rattle.std.proofs.lemmas.Bool.Decides.{nat_tests}
use Rattle.std.proofs.lemmas.Cmp.{tied_itself}
use Rattle.std.proofs.lemmas.Option.{same_Some}
use Rattle.mapping_records.specs.Eids.{same_eid}
use Rattle.mapping_records.specs.Orders.{eid_order}
use Rattle.mapping_records.specs.declared.eid.Eid.{Eid}
use Rattle.ordered_set.specs.Keys.{has, Ascends}
use Rattle.map_cache.specs.Cache.{exact, lasting, lasts, without_eid}
use Rattle.map_cache.specs.Indexed.{ending_order, ending_order-total, ends_as}
use Rattle.map_cache.specs.Lists.{AllLast, IsAscending}
use Rattle.map_cache.specs.declared.keys.Ending.{Ending}
use Rattle.map_cache.specs.declared.mapping.Mapping.{Mapping}
use Rattle.map_cache.proofs.AmongLemmas.{Among, among-any, any-among, contains-among}
use Rattle.map_cache.proofs.EidLemmas.{is_eq-nat}
use Rattle.map_cache.proofs.ExactLemmas.{exact-one, one-same, same-equal}
use Rattle.map_cache.proofs.LastingLemmas.{lasting-all}
use Rattle.map_cache.proofs.PlaceLemmas.{length-without_eid}

-- ### what an order says

is_gt-nat : (x y : ℕ) → is_gt (nat_cmp x y) ≡ nat_lt y x
is_gt-nat x y = grind (arith, nat_tests)

pub no_more : (o r : Ordering) → ordering_then o r ≡ Less → is_gt o ≡ false
no_more Less r is = refl
no_more Equal r is = refl
no_more Greater r is = cc

pub both_tie : (o r : Ordering) → is_eq (ordering_then o r) ≡ true → (is_eq o ≡ true) × (is_eq r ≡ true)
both_tie Less r is = absurd (cc is)
both_tie Equal r is = (refl, is)
both_tie Greater r is = absurd (cc is)

pub less-end : (a b : Ending) → ending_order a b ≡ Less → a.end ≤ b.end
less-end a b less =
    omega (arith, ltb-false b.end a.end (sym (is_gt-nat a.end b.end) ∙ no_more (nat_cmp a.end b.end) (eid_order a.eid b.eid) less))

pub tied-end : (a b : Ending) → is_eq (ending_order a b) ≡ true → a.end ≡ b.end
tied-end a b ties =
    eqb-true a.end b.end (sym (is_eq-nat a.end b.end) ∙ (both_tie (nat_cmp a.end b.end) (eid_order a.eid b.eid) ties).0)

-- the first of keys in order is below each other
pub first-below : {K : Type 0} (order : K → K → Ordering) (first : K) (keys : List K) (key : K) → Ascends order (first ∷ keys) → Among key keys → order first key ≡ Less
first-below {K} order first keys key ascends among =
    let there = contains-among keys key among in
    subst (λ (k : K). order first k ≡ Less) there.2 (ascends 0 (suc there.0) key (omega arith) (omega (arith, there.1)))

-- ### where none has ended

all-last : (m : ℕ) (items : List Mapping) → ((x : Mapping) → Among x items → lasts m x ≡ true) → AllLast m items
all-last m [] each = tt
all-last m (x ∷ items) each = (each x (inl refl), all-last m items (λ y among. each y (inr among)))

-- the key of a mapping that ends
abbrev end_key : Mapping → Ending
end_key x = record { end = x.end; eid = x.eid }

-- the set has the key of each mapping that isn't fixed
key-had : (items : List Mapping) (endings : List Ending) (x : Mapping) → ((key : Ending) → has ending_order key endings ≡ list_any (ends_as key) items) → Among x items → x.fixed ≡ false → has ending_order (end_key x) endings ≡ true
key-had items endings x ends among is = ends (end_key x) ∙ any-among (ends_as (end_key x)) items x passes among
  where
    passes : ends_as (end_key x) x ≡ true
    passes = ap (λ b. not b && ((x.end == x.end) && same_eid x.eid x.eid)) is ∙ and_from (x.end == x.end) (same_eid x.eid x.eid) (eq-eqb x.end x.end refl) (same-equal x.eid x.eid refl)

-- where all keys that the set has are later, none has ended
none-ended : (m : ℕ) (items : List Mapping) (endings : List Ending) → ((key : Ending) → has ending_order key endings ≡ list_any (ends_as key) items) → ((key : Ending) → has ending_order key endings ≡ true → m < key.end) → lasting m items ≡ items
none-ended m items endings ends later = lasting-all m items (all-last m items (λ x among. by x among x.fixed refl))
  where
    by : (x : Mapping) → Among x items → (b : Bool) → x.fixed ≡ b → lasts m x ≡ true
    by x among true is = ap (λ b. b || nat_lt m x.end) is
    by x among false is =
        ap (λ b. b || nat_lt m x.end) is ∙ lt-ltb m x.end (later (end_key x) (key-had items endings x ends among is))

-- none has where the set is empty
pub none-ends : (m : ℕ) (items : List Mapping) (endings : List Ending) → ((key : Ending) → has ending_order key endings ≡ list_any (ends_as key) items) → None ≡ slice_get endings 0 → lasting m items ≡ items
none-ends m items [] ends none = none-ended m items [] ends (λ key is. absurd (cc is))
none-ends m items (first ∷ endings) ends none = absurd (cc none)

-- nor where the first of its keys is later
pub first-later : (m : ℕ) (items : List Mapping) (endings : List Ending) (first : Ending) → ((key : Ending) → has ending_order key endings ≡ list_any (ends_as key) items) → Ascends ending_order endings → Some first ≡ slice_get endings 0 → m < first.end → lasting m items ≡ items
first-later m items [] first ends ascends is before = absurd (cc is)
first-later m items (one ∷ endings) first ends ascends is before = none-ended m items (one ∷ endings) ends later
  where
    later : (key : Ending) → has ending_order key (one ∷ endings) ≡ true → m < key.end
    later key had =
        let same : one ≡ first = same_Some one first (sym is) in
        let before_one : m < one.end = subst (λ (k : Ending). m < k.end) (sym same) before in
        let other = among-any (λ k. is_eq (ending_order k key)) (one ∷ endings) had in
        let tied : (other.item).end ≡ key.end = tied-end other.item key other.passes in
        elim other.among [
          | inl here ↦ omega (arith, before_one, ap (λ (k : Ending). k.end) here, tied)
          | inr behind ↦ omega (arith, before_one, less-end one other.item (first-below ending_order one endings other.item ascends behind), tied)
        ]

-- ### where one has

-- a mapping that has ended, with the EID of the first key
pub record HasEnded (m : ℕ) (items : List Mapping) (eid : Eid) : Type 0 where
  pub item : Mapping
  pub among : Among item items
  pub same : same_eid item.eid eid ≡ true
  pub ended : lasts m item ≡ false

pub first-ended : (m : ℕ) (items : List Mapping) (endings : List Ending) (first : Ending) → ((key : Ending) → has ending_order key endings ≡ list_any (ends_as key) items) → Some first ≡ slice_get endings 0 → (m < first.end → ⊥) → HasEnded m items first.eid
first-ended m items [] first ends is over = absurd (cc is)
first-ended m items (one ∷ endings) first ends is over =
    let same : one ≡ first = same_Some one first (sym is) in
    let itself : is_eq (ending_order one first) ≡ true = ap (λ k. is_eq (ending_order k first)) same ∙ ap is_eq (tied_itself ending_order-total first) in
    let found = among-any (ends_as first) items (sym (ends first) ∙ ap (λ b. b || has ending_order first endings) itself) in
    let outer = and_parts _ _ found.passes in
    let inner = and_parts _ _ outer.1 in
    record {
      item = found.item;
      among = found.among;
      same = inner.1;
      ended = ended (found.item) outer.0 (eqb-true (found.item).end first.end inner.0);
    }
  where
    ended : (x : Mapping) → not x.fixed ≡ true → x.end ≡ first.end → lasts m x ≡ false
    ended x free end = by x.fixed free
      where
        by : (b : Bool) → not b ≡ true → (b || nat_lt m x.end) ≡ false
        by true is = absurd (cc is)
        by false is = elim (cases_Bool (nat_lt m x.end)) [ inl less ↦ absurd (over (omega (arith, ltb-true m x.end less, end))) | inr late ↦ late ]

-- what passes a second test passes a first
filter-first : {A : Type 0} (p q : A → Bool) (items : List A) → ((x : A) → Among x items → p x ≡ false → q x ≡ false) → filter q (filter p items) ≡ filter q items
filter-first p q [] each = refl
filter-first {A} p q (x ∷ items) each = by (p x) refl (filter-first p q items (λ y among. each y (inr among)))
  where
    by : (b : Bool) → p x ≡ b → filter q (filter p items) ≡ filter q items → filter q (cond b (x ∷ filter p items) (filter p items)) ≡ cond (q x) (x ∷ filter q items) (filter q items)
    by true is h = ap (λ l. cond (q x) (x ∷ l) l) h
    by false is h = h ∙ sym (ap (λ b. cond b (x ∷ filter q items) (filter q items)) (each x (inl refl) is))

-- those that last are the same without it
pub lasting-without : (m : ℕ) (eid : Eid) (items : List Mapping) → IsAscending items → HasEnded m items eid → lasting m (without_eid eid items) ≡ lasting m items
lasting-without m eid items ascending found = filter-first (λ mapping. not (same_eid mapping.eid eid)) (lasts m) items each
  where
    by : (y : Mapping) → Among y items → (b : Bool) → same_eid y.eid eid ≡ b → not b ≡ false → lasts m y ≡ false
    by y among true same is = ap (lasts m) (one-same eid items y found.item ascending among found.among same found.same) ∙ found.ended
    by y among false same is = absurd (cc is)

    each : (y : Mapping) → Among y items → not (same_eid y.eid eid) ≡ false → lasts m y ≡ false
    each y among is = by y among (same_eid y.eid eid) refl is

-- and fewer mappings are left
pub length-less : (m : ℕ) (eid : Eid) (items : List Mapping) → IsAscending items → HasEnded m items eid → length (without_eid eid items) < length items
length-less m eid items ascending found =
    let one : ℕ = 1 in
    let there : cond (is_some (exact items eid)) 1 0 ≡ one = ap (λ o. cond (is_some o) 1 0) (exact-one eid items found.item ascending found.among found.same) in
    omega (arith, there, length-without_eid eid items)
