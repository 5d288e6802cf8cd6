-- Items that are left.
use Rattle.std.proofs.Common.{◌≡◌, ℕ, zero, suc, Bool, true, false, cond, List, [], ◌∷◌, filter, get_or, map, remove, slice_get, IfSome, Some, refl, sym, ap, ap₂, ◌∙◌}
use Rattle.std.specs.List.{list_all}
use Rattle.std.specs.Option.{option_map}
use Rattle.std.proofs.lemmas.Bool.{and_parts}
use Rattle.std.proofs.lemmas.Option.{get_or_from_slice_get, same_Some, slice_get-map}

module _ {A : Type 0} (test : A → Bool) where
  -- without an item that fails, the same pass
  pub filter-remove : (items : List A) (place : ℕ) (x : A) → slice_get items place ≡ Some x → test x ≡ false → filter test (remove items place) ≡ filter test items
  filter-remove [] place x at fails = absurd (cc at)
  filter-remove (y ∷ items) zero x at fails =
      sym (ap (λ b. cond b (y ∷ filter test items) (filter test items)) (ap test (same_Some y x at) ∙ fails))
  filter-remove (y ∷ items) (suc place) x at fails = ap (λ l. cond (test y) (y ∷ l) l) (filter-remove items place x at fails)

  module _ {B : Type 0} (f : B → A) where
    -- where all pass, all are left
    pub filter-all : (items : List B) → list_all (λ y. test (f y)) items ≡ true → filter test (map f items) ≡ map f items
    filter-all [] all = refl
    filter-all (y ∷ items) all =
        let both = and_parts (test (f y)) _ all in
        ap₂ (λ b l. cond b (f y ∷ l) l) both.0 (filter-all items both.1)

    -- what was made of an item that fails fails
    pub old-item : (items : List B) (place : ℕ) (x : A) → IfSome (slice_get items place) (λ y. test (f y) ≡ false) → slice_get (map f items) place ≡ Some x → test x ≡ false
    old-item [] place x fails at = absurd (cc at)
    old-item (y ∷ items) zero x fails at = ap test (sym (same_Some (f y) x at)) ∙ fails
    old-item (y ∷ items) (suc place) x fails at = old-item items place x fails at

    module _ (items : List B) (i : ℕ) (y : B) (at : Some y ≡ slice_get items i) where
      there : slice_get (map f items) i ≡ Some (f y)
      there = slice_get-map f items i ∙ ap (option_map f) (sym at)

      here : test (get_or (map f items) i (f y)) ≡ test (f y)
      here = ap test (get_or_from_slice_get (map f items) i (f y) (f y) there)
