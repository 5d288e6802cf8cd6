-- Where an item is put in order, and how many mappings are left once one is taken away.
use Rattle.std.proofs.Common.{◌≡◌, ◌≤◌, suc, ◌+◌, Bool, true, false, cond, not, List, [], ◌∷◌, length, filter, insert, Option, None, Some, is_some, Ordering, is_lt, refl, ap, ap₂, ◌∙◌, arith}
use Rattle.std.specs.List.{position_or_len}
use Rattle.mapping_records.specs.Eids.{same_eid}
use Rattle.mapping_records.specs.Orders.{put_in_order}
use Rattle.mapping_records.specs.declared.eid.Eid.{Eid}
use Rattle.map_cache.specs.Cache.{exact, without_eid}
use Rattle.map_cache.specs.declared.mapping.Mapping.{Mapping}

-- an item goes before the first of a greater key
pub insert-position : {I K : Type 0} (key : I → K) (order : K → K → Ordering) (x : I) (items : List I) → insert items (position_or_len (λ i. is_lt (order (key x) (key i))) items) x ≡ put_in_order key order x items
insert-position key order x [] = refl
insert-position {I} key order x (i ∷ items) = by (is_lt (order (key x) (key i))) (insert-position key order x items)
  where
    by : (b : Bool) → insert items (position_or_len (λ j. is_lt (order (key x) (key j))) items) x ≡ put_in_order key order x items → insert (i ∷ items) (cond (not b) (1 + position_or_len (λ j. is_lt (order (key x) (key j))) items) 0) x ≡ cond b (x ∷ i ∷ items) (i ∷ put_in_order key order x items)
    by true h = refl
    by false h =
        let next : 1 + position_or_len (λ j. is_lt (order (key x) (key j))) items ≡ suc (position_or_len (λ j. is_lt (order (key x) (key j))) items) = omega arith in
        ap (λ n. insert (i ∷ items) n x) next ∙ ap (λ l. i ∷ l) h

-- where there is a mapping of the EID, at least that one goes
pub length-without_eid : (eid : Eid) (mappings : List Mapping) → length (without_eid eid mappings) + cond (is_some (exact mappings eid)) 1 0 ≤ length mappings
length-without_eid eid [] = omega arith
length-without_eid eid (x ∷ others) = by (same_eid x.eid eid) (length-without_eid eid others)
  where
    by : (b : Bool) → length (without_eid eid others) + cond (is_some (exact others eid)) 1 0 ≤ length others → length (cond (not b) (x ∷ without_eid eid others) (without_eid eid others)) + cond (is_some (cond b (Some x) (exact others eid))) 1 0 ≤ length (x ∷ others)
    by true h = omega (arith, h)
    by false h = omega (arith, h)

-- what is left goes once
pub filter_again : {A : Type 0} (p : A → Bool) (items : List A) → filter p (filter p items) ≡ filter p items
filter_again p [] = refl
filter_again {A} p (x ∷ items) = by (p x) refl (filter_again p items)
  where
    by : (b : Bool) → p x ≡ b → filter p (filter p items) ≡ filter p items → filter p (cond b (x ∷ filter p items) (filter p items)) ≡ cond b (x ∷ filter p items) (filter p items)
    by true is h = ap₂ (λ c l. cond c (x ∷ l) l) is h
    by false is h = h

-- of an EID whose mapping went there is none
pub none-left : (eid : Eid) (mappings : List Mapping) → exact (without_eid eid mappings) eid ≡ None
none-left eid [] = refl
none-left eid (x ∷ others) = by (same_eid x.eid eid) refl (none-left eid others)
  where
    by : (b : Bool) → same_eid x.eid eid ≡ b → exact (without_eid eid others) eid ≡ None → exact (cond (not b) (x ∷ without_eid eid others) (without_eid eid others)) eid ≡ None
    by true is h = h
    by false is h = ap (λ b. cond b (Some x) (exact (without_eid eid others) eid)) is ∙ h

-- where there is none, none goes
pub without-none : (eid : Eid) (mappings : List Mapping) → exact mappings eid ≡ None → without_eid eid mappings ≡ mappings
without-none eid [] none = refl
without-none eid (x ∷ others) none = by (same_eid x.eid eid) none (without-none eid others)
  where
    by : (b : Bool) → cond b (Some x) (exact others eid) ≡ None → (exact others eid ≡ None → without_eid eid others ≡ others) → cond (not b) (x ∷ without_eid eid others) (without_eid eid others) ≡ x ∷ others
    by true none h = absurd (cc none)
    by false none h = ap (λ l. x ∷ l) (h none)

pub without-missing : (eid : Eid) (mappings : List Mapping) → is_some (exact mappings eid) ≡ false → without_eid eid mappings ≡ mappings
without-missing eid mappings missing = without-none eid mappings (by (exact mappings eid) missing)
  where
    by : (found : Option Mapping) → is_some found ≡ false → found ≡ None
    by None missing = refl
    by (Some x) missing = absurd (cc missing)
