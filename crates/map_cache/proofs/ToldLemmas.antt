-- Status bits that are told at a place.
use Rattle.std.proofs.Common.{◌≡◌, ℕ, zero, suc, Bool, true, false, cond, ◌||◌, List, [], ◌∷◌, slice_get, slice_set, Some, refl, sym, ap, ap₂, ◌∙◌}
use Rattle.std.specs.List.{list_any}
use Rattle.std.proofs.lemmas.Option.{same_Some}
use Rattle.mapping_records.specs.Eids.{same_eid}
use Rattle.mapping_records.specs.declared.eid.Eid.{Eid}
use Rattle.map_cache.specs.Cache.{bits_told, learned_in, told_mapping, with_bits}
use Rattle.map_cache.specs.Indexed.{all_stays, ends_as, stay_of, Counted, IsIndexed}
use Rattle.map_cache.specs.Lists.{IsBelow}
use Rattle.map_cache.specs.declared.keys.Ending.{Ending}
use Rattle.map_cache.specs.declared.mapping.Mapping.{Mapping}
use Rattle.map_cache.proofs.CountLemmas.{for_each-same, learned_in-told}
use Rattle.map_cache.proofs.PlaceOfLemmas.{greater-apart, lesser-apart, there-same, IsAbsent, IsThere}

module _ (eid : Eid) (bits width : ℕ) where
  told-apart : (x : Mapping) (others : List Mapping) → same_eid x.eid eid ≡ false → bits_told eid bits width others ≡ others → bits_told eid bits width (x ∷ others) ≡ x ∷ others
  told-apart x others apart h = ap₂ (λ b l. cond b (with_bits bits width x) x ∷ l) apart h

  told-below : (items : List Mapping) → IsBelow eid items → bits_told eid bits width items ≡ items
  told-below [] below = refl
  told-below (x ∷ items) below = told-apart x items (greater-apart eid x below.0) (told-below items below.1)

  -- where there is no mapping of the EID, nothing is told
  pub told-absent : (items : List Mapping) (n : ℕ) → IsAbsent eid items n → items ≡ bits_told eid bits width items
  told-absent [] n absent = refl
  told-absent (x ∷ items) zero absent = sym (told-below (x ∷ items) absent)
  told-absent (x ∷ items) (suc n) absent =
      sym (told-apart x items (lesser-apart eid x absent.0) (sym (told-absent items n absent.1)))

  -- where it is there, it alone is told
  pub told-there : (items : List Mapping) (n : ℕ) (x : Mapping) → IsThere eid items n → slice_get items n ≡ Some x → slice_set items n (with_bits bits width x) ≡ bits_told eid bits width items
  told-there [] n x there is = elim there [ ]
  told-there (y ∷ items) zero x there is =
      ap (λ (z : Mapping). with_bits bits width z ∷ items) (sym (same_Some y x is))
      ∙ sym (ap₂ (λ b l. cond b (with_bits bits width y) y ∷ l) (there-same eid y there.0) (told-below items there.1))
  told-there (y ∷ items) (suc n) x there is =
      ap (λ l. y ∷ l) (told-there items n x there.1 is)
      ∙ ap (λ b. cond b (with_bits bits width y) y ∷ bits_told eid bits width items) (sym (lesser-apart eid y there.0))

  told-stay : (name : ℕ) (x : Mapping) → stay_of name (told_mapping eid bits width x) ≡ stay_of name x
  told-stay name x = by (same_eid x.eid eid)
    where
      by : (b : Bool) → stay_of name (cond b (with_bits bits width x) x) ≡ stay_of name x
      by true = refl
      by false = refl

  pub all_stays-told : (names : List ℕ) (items : List Mapping) → all_stays names (bits_told eid bits width items) ≡ all_stays names items
  all_stays-told [] items = refl
  all_stays-told (name ∷ names) [] = refl
  all_stays-told (name ∷ names) (x ∷ items) = ap₂ (λ h l. h ∷ l) (told-stay name x) (all_stays-told names items)

  pub any-told : (test : Mapping → Bool) → ((x : Mapping) → test (with_bits bits width x) ≡ test x) → (items : List Mapping) → list_any test (bits_told eid bits width items) ≡ list_any test items
  any-told test same [] = refl
  any-told test same (x ∷ items) = ap₂ (λ a b. a || b) (by (same_eid x.eid eid)) (any-told test same items)
    where
      by : (b : Bool) → test (cond b (with_bits bits width x) x) ≡ test x
      by true = same x
      by false = refl

  -- what is told leaves the ends and the numbers
  pub indexed-told : (mappings now : List Mapping) (endings : List Ending) (counts : Counted) → now ≡ bits_told eid bits width mappings → IsIndexed mappings endings counts → IsIndexed now endings counts
  indexed-told mappings now endings counts told is = rw told (record {
    ends = λ key. is.ends key ∙ sym (any-told (ends_as key) (λ x. refl) mappings);
    counted =
        is.counted
        ∙ for_each-same (λ iid. learned_in iid mappings) (λ iid. learned_in iid (bits_told eid bits width mappings)) (λ iid. sym (learned_in-told eid bits width iid mappings)) counts.limits;
  })
