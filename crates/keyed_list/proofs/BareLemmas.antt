-- Items that differ in their links alone.
use Rattle.std.proofs.Common.{◌≡◌, ℕ, ◌<◌, ◌||◌, Bool, List, [], ◌∷◌, get_or, length, map, slice_get, All, Some, refl, sym, ap, ◌∙◌, arith}
use Rattle.std.specs.List.{list_any}
use Rattle.std.specs.Option.{option_map}
use Rattle.std.proofs.lemmas.List.{length-map}
use Rattle.std.proofs.lemmas.Option.{same_Some, slice_get-get_or, slice_get-map}
use Rattle.keyed_list.specs.Keyed.{bare, Ascends}
use Rattle.keyed_list.specs.declared.keyed.Numbered.{Numbered}

module _ {T : Type 0} where
  map-items : (items : List (Numbered T)) → map (λ y. y.item) items ≡ map (λ pair. pair.1) (map bare items)
  map-items [] = refl
  map-items (y ∷ items) = ap (λ more. y.item ∷ more) (map-items items)

  any-bare : (test : ℕ × T → Bool) (items : List (Numbered T)) → list_any (λ y. test (bare y)) items ≡ list_any test (map bare items)
  any-bare test [] = refl
  any-bare test (y ∷ items) = ap (λ b. test (bare y) || b) (any-bare test items)

  module _ (new items : List (Numbered T)) (same : map bare new ≡ map bare items) where
    pub bare-length : length new ≡ length items
    bare-length = sym (length-map new bare) ∙ ap length same ∙ length-map items bare

    pub bare-items : map (λ y. y.item) new ≡ map (λ y. y.item) items
    bare-items = map-items new ∙ ap (map (λ pair. pair.1)) same ∙ sym (map-items items)

    pub bare-any : (test : ℕ × T → Bool) → list_any (λ y. test (bare y)) new ≡ list_any (λ y. test (bare y)) items
    bare-any test = any-bare test new ∙ ap (list_any test) same ∙ sym (any-bare test items)

    number-at : (k : ℕ) (d : Numbered T) → k < length items → (get_or new k d).number ≡ (get_or items k d).number
    number-at k d within =
        let there : slice_get new k ≡ Some (get_or new k d) = slice_get-get_or new k d (omega (arith, within, bare-length)) in
        let also : slice_get items k ≡ Some (get_or items k d) = slice_get-get_or items k d within in
        ap (λ (pair : ℕ × T). pair.0)
        (same_Some (bare (get_or new k d)) (bare (get_or items k d)) (sym (slice_get-map bare new k ∙ ap (option_map bare) there) ∙ ap (λ l. slice_get l k) same ∙ slice_get-map bare items k ∙ ap (option_map bare) also))

    pub bare-ascends : Ascends items → Ascends new
    bare-ascends ascends j k d less within =
        let inside : k < length items = omega (arith, within, bare-length) in
        let lower : (get_or items j d).number < (get_or items k d).number = ascends j k d less inside in
        omega (arith, lower, number-at j d (omega (arith, less, inside)), number-at k d inside)

    pub bare-less : (bound : ℕ) → All (λ y. y.number < bound) items → All (λ y. y.number < bound) new
    bare-less bound all k d within =
        let inside : k < length items = omega (arith, within, bare-length) in
        let lower : (get_or items k d).number < bound = all k d inside in
        omega (arith, lower, number-at k d inside)
