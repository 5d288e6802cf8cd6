-- What a search finds among EIDs in order.
use Rattle.std.proofs.Common.{◌≡◌, ◌<◌, ◌+◌, ℕ, zero, suc, false, List, [], ◌∷◌, length, map, Result, Ok, Err, Ordering, Less, Equal, Greater, is_lt, is_eq, sym, ap, subst, ◌∙◌, arith, inl, inr}
use Rattle.std.specs.Ordering.{ordering_index, ordering_reverse}
use Rattle.std.specs.Prelude.{slice_index_or, is_ok}
use Rattle.std.specs.List.{list_any}
use Rattle.std.specs.List.Sorted.{IsBinarySearchResult, IsNonDecreasingBy, IsSearchInRange, IsStrictlySortedBy}
use Rattle.std.proofs.lemmas.Bool.{cases_lt}
use Rattle.std.proofs.lemmas.List.Folds.{list_any_at, list_any_none}
use Rattle.std.proofs.lemmas.List.Sorted.{searchable_from_sorted}
use Rattle.mapping_records.specs.Eids.{same_eid}
use Rattle.mapping_records.specs.Orders.{eid_order}
use Rattle.mapping_records.specs.declared.eid.Eid.{Eid}
use Rattle.mapping_records.specs.declared.record.Record.{Record}
use Rattle.mapping_records.proofs.OrderLemmas.{eid_order-total}
use Rattle.map_cache.proofs.EidLemmas.{is_eq-eid}

-- each EID is below those after it
abbrev Ascends : List Record → Type 0
Ascends mappings = IsStrictlySortedBy eid_order (map (λ mapping. mapping.eid) mappings)

next-above : (mappings : List Record) (k : ℕ) (d : Record) → Ascends mappings → k + 1 < length mappings → eid_order (slice_index_or mappings k d).eid (slice_index_or mappings (k + 1) d).eid ≡ Less
unfolding IsStrictlySortedBy
next-above [] k d ascends within = absurd (omega (arith, within))
next-above (mapping ∷ []) k d ascends within = absurd (omega (arith, within))
next-above (mapping ∷ next ∷ mappings) zero d ascends within = ascends.0.0
next-above (mapping ∷ next ∷ mappings) (suc k) d ascends within =
    let one_more : suc (k + 1) ≡ suc k + 1 = omega arith in
    subst (λ (j : ℕ). eid_order (slice_index_or (next ∷ mappings) k d).eid (slice_index_or (mapping ∷ next ∷ mappings) j d).eid ≡ Less) one_more
    (next-above (next ∷ mappings) k d ascends.1 (omega (arith, within)))

not_below : (a b : Eid) → eid_order a b ≡ Less → is_lt (eid_order b a) ≡ false
not_below a b less = ap is_lt (eid_order-total.antisymm b a ∙ ap ordering_reverse less)

-- the answers of the search rise
answers_rise : (mappings : List Record) (eid : Eid) → Ascends mappings → IsNonDecreasingBy (λ (mapping : Record). ordering_index (eid_order mapping.eid eid)) mappings
answers_rise mappings eid ascends =
    searchable_from_sorted eid_order-total (λ (mapping : Record). mapping.eid) mappings eid
    (λ k d from within. not_below (slice_index_or mappings k d).eid (slice_index_or mappings (k + 1) d).eid (next-above mappings k d ascends within))

same_at : (a b : Eid) (o : Ordering) → eid_order a b ≡ o → same_eid a b ≡ is_eq o
same_at a b o is = sym (is_eq-eid a b) ∙ ap is_eq is

-- what was found is the EID, and else none has it
pub searched-eid : (mappings : List Record) (eid : Eid) (r : Result ℕ ℕ) → Ascends mappings → IsSearchInRange r (length mappings) → IsBinarySearchResult (λ (mapping : Record). eid_order mapping.eid eid) mappings r → is_ok r ≡ list_any (λ (mapping : Record). same_eid mapping.eid eid) mappings
searched-eid [] eid (Ok i) ascends within is = absurd (omega (arith, within))
searched-eid (first ∷ mappings) eid (Ok i) ascends within is =
    sym (list_any_at (λ (mapping : Record). same_eid mapping.eid eid) (first ∷ mappings) i first within (same_at (slice_index_or (first ∷ mappings) i first).eid eid Equal (is first)))
searched-eid mappings eid (Err i) ascends within is =
    let parts = is (answers_rise mappings eid ascends) in
    sym (list_any_none (λ (mapping : Record). same_eid mapping.eid eid) mappings (λ k d inside.
    elim (cases_lt k i) [
      | inl before ↦ same_at (slice_index_or mappings k d).eid eid Less (parts.0 k d (omega arith) before)
      | inr after ↦ same_at (slice_index_or mappings k d).eid eid Greater (parts.1 k d after inside)
    ]))
