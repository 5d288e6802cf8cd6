-- Tests of mappings, once one is put in order or taken away.
use Rattle.std.proofs.Common.{◌≡◌, ℕ, zero, suc, Bool, true, false, cond, ◌||◌, ◌&&◌, ◌==◌, not, List, [], ◌∷◌, insert, remove, slice_get, Some, Equal, is_lt, is_eq, refl, sym, ap, ◌∙◌, true≢false}
use Rattle.std.specs.Cmp.{Equal-is}
use Rattle.std.specs.List.{list_any}
use Rattle.std.specs.Ordering.{ordering_reverse}
use Rattle.std.proofs.lemmas.Cmp.{alike_right}
use Rattle.std.proofs.lemmas.Map.Views.{any-filter_same}
use Rattle.std.proofs.lemmas.Option.{same_Some}
use Rattle.mapping_records.proofs.OrderLemmas.{eid_order-total}
use Rattle.mapping_records.specs.Eids.{same_eid}
use Rattle.mapping_records.specs.Orders.{eid_order, put_in_order}
use Rattle.mapping_records.specs.declared.eid.Eid.{Eid}
use Rattle.map_cache.specs.Cache.{without_eid}
use Rattle.map_cache.specs.Indexed.{ends_as}
use Rattle.map_cache.specs.declared.keys.Ending.{Ending}
use Rattle.map_cache.specs.declared.mapping.Mapping.{Mapping}
use Rattle.map_cache.proofs.EidLemmas.{is_eq-eid}
use Rattle.map_cache.proofs.PlaceOfLemmas.{lesser-apart, same-there, there-same, without-below, IsAbsent, IsThere}

pub turned : (a b c : Bool) → (a || (b || c)) ≡ (b || (a || c))
turned true true c = refl
turned true false c = refl
turned false b c = refl

pub any-put : (test : Mapping → Bool) (x : Mapping) (items : List Mapping) → list_any test (put_in_order (λ i. i.eid) eid_order x items) ≡ (test x || list_any test items)
any-put test x [] = refl
any-put test x (y ∷ items) = by (is_lt (eid_order x.eid y.eid)) (any-put test x items)
  where
    by : (b : Bool) → list_any test (put_in_order (λ i. i.eid) eid_order x items) ≡ (test x || list_any test items) → list_any test (cond b (x ∷ y ∷ items) (y ∷ put_in_order (λ i. i.eid) eid_order x items)) ≡ (test x || (test y || list_any test items))
    by true h = refl
    by false h = ap (λ b. test y || b) h ∙ turned (test y) (test x) (list_any test items)

-- a mapping of an EID that is nowhere goes to its place
pub insert-absent : (x : Mapping) (items : List Mapping) (n : ℕ) → IsAbsent x.eid items n → insert items n x ≡ put_in_order (λ i. i.eid) eid_order x items
insert-absent x [] zero absent = refl
insert-absent x [] (suc n) absent = elim absent [ ]
insert-absent x (y ∷ items) zero absent =
    ap (λ b. cond b (x ∷ y ∷ items) (y ∷ put_in_order (λ i. i.eid) eid_order x items)) (sym (ap is_lt absent.0))
insert-absent x (y ∷ items) (suc n) absent =
    let back : is_lt (eid_order x.eid y.eid) ≡ false = ap is_lt (eid_order-total.antisymm x.eid y.eid ∙ ap ordering_reverse absent.0) in
    ap (λ l. y ∷ l) (insert-absent x items n absent.1)
    ∙ ap (λ b. cond b (x ∷ y ∷ items) (y ∷ put_in_order (λ i. i.eid) eid_order x items)) (sym back)

-- what is left without the mapping at the place is what is left without its EID
pub remove-there : (eid : Eid) (items : List Mapping) (n : ℕ) → IsThere eid items n → remove items n ≡ without_eid eid items
remove-there eid [] n there = elim there [ ]
remove-there eid (y ∷ items) zero there =
    sym (ap (λ b. cond (not b) (y ∷ without_eid eid items) (without_eid eid items)) (there-same eid y there.0) ∙ without-below eid items there.1)
remove-there eid (y ∷ items) (suc n) there =
    ap (λ l. y ∷ l) (remove-there eid items n there.1)
    ∙ ap (λ b. cond (not b) (y ∷ without_eid eid items) (without_eid eid items)) (sym (lesser-apart eid y there.0))

any-remove : (test : Mapping → Bool) (items : List Mapping) (n : ℕ) (x : Mapping) → slice_get items n ≡ Some x → list_any test items ≡ (test x || list_any test (remove items n))
any-remove test [] n x is = cc
any-remove test (y ∷ items) zero x is = ap (λ (z : Mapping). test z || list_any test items) (same_Some y x is)
any-remove test (y ∷ items) (suc n) x is =
    ap (λ b. test y || b) (any-remove test items n x is) ∙ turned (test y) (test x) (list_any test (remove items n))

-- what is the same as a third is the same
same-both : (a b c : Eid) → same_eid a c ≡ true → same_eid b c ≡ true → same_eid a b ≡ true
same-both a b c first second =
    let ties : eid_order b c ≡ Equal = (Equal-is (eid_order b c)).0 (is_eq-eid b c ∙ second) in
    sym (is_eq-eid a b) ∙ ap is_eq (alike_right eid_order-total b c a ties) ∙ is_eq-eid a c ∙ first

-- none of a key is left, where the one taken away has the key's EID
any-gone : (eid key : Eid) (test : Mapping → Bool) → ((x : Mapping) → test x ≡ true → same_eid x.eid key ≡ true) → same_eid eid key ≡ true → (items : List Mapping) → list_any test (without_eid eid items) ≡ false
any-gone eid key test are is items =
    any-filter_same test (λ x. not (same_eid x.eid eid)) false (λ x passes. ap not (same-both x.eid eid key (are x passes) is)) items

left_by : (passes left : Bool) → (passes ≡ true → left ≡ false) → left ≡ (not passes && (passes || left))
left_by true left gone = gone refl
left_by false left gone = refl

same-on : (a b c : Eid) → same_eid a b ≡ true → same_eid a c ≡ true → same_eid b c ≡ true
same-on a b c first second =
    let ties : eid_order a b ≡ Equal = (Equal-is (eid_order a b)).0 (is_eq-eid a b ∙ first) in
    sym (is_eq-eid b c) ∙ ap is_eq (sym (eid_order-total.congr a b c ties)) ∙ is_eq-eid a c ∙ second

-- what is left of those that pass a test of one EID
pub any-left : (eid key : Eid) (test : Mapping → Bool) → ((x : Mapping) → test x ≡ true → same_eid x.eid key ≡ true) → (items : List Mapping) (n : ℕ) (x : Mapping) → IsThere eid items n → slice_get items n ≡ Some x → list_any test (without_eid eid items) ≡ (not (test x) && list_any test items)
any-left eid key test are items n x there is =
    let same : same_eid x.eid eid ≡ true = same-there eid items n x there is in
    let gone : test x ≡ true → list_any test (without_eid eid items) ≡ false = λ passes. any-gone eid key test are (same-on x.eid eid key same (are x passes)) items in
    left_by (test x) (list_any test (without_eid eid items)) gone
    ∙ ap (λ l. not (test x) && (test x || list_any test l)) (sym (remove-there eid items n there))
    ∙ ap (λ b. not (test x) && b) (sym (any-remove test items n x is))

third : (a b c : Bool) → (a && (b && c)) ≡ true → c ≡ true
third true true c is = is
third true false c is = absurd (true≢false (sym is))
third false b c is = absurd (true≢false (sym is))

pub ends-left : (eid : Eid) (key : Ending) (items : List Mapping) (n : ℕ) (x : Mapping) → IsThere eid items n → slice_get items n ≡ Some x → list_any (ends_as key) (without_eid eid items) ≡ (not (ends_as key x) && list_any (ends_as key) items)
ends-left eid key items n x there is =
    any-left eid key.eid (ends_as key) (λ y passes. third (not y.fixed) (y.end == key.end) (same_eid y.eid key.eid) passes) items n x there is
