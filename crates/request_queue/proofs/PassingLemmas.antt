-- Whether an item passes, by the last one that does.
use Rattle.std.proofs.Common.{◌≡◌, ◌⊎◌, ℕ, zero, suc, Bool, true, false, cond, List, [], ◌∷◌, fold, slice_get, Option, Some, None, inl, inr, refl, sym, ap, ◌∙◌}
use Rattle.std.proofs.lemmas.Option.{same_Some}
use Rattle.keyed_list.specs.Lists.{last_where, later}

module _ {A : Type 0} (test : A → Bool) where
  -- no item passes
  abbrev pub NonePasses : List A → Type 0
  NonePasses items = (k : ℕ) (y : A) → slice_get items k ≡ Some y → test y ≡ false

  -- where nothing is left, none passes
  pub none-passes : (before : Option A) (items : List A) → fold (later test) before items ≡ None → (before ≡ None) × NonePasses items
  none-passes before [] is = (is, λ k y at. absurd (cc at))
  none-passes before (y ∷ items) is = by (test y) refl (none-passes (later test before y) items is)
    where
      shifted : test y ≡ false → NonePasses items → NonePasses (y ∷ items)
      shifted fails none zero z at = ap test (sym (same_Some y z at)) ∙ fails
      shifted fails none (suc k) z at = none k z at

      by : (b : Bool) → test y ≡ b → (cond b (Some y) before ≡ None) × NonePasses items → (before ≡ None) × NonePasses (y ∷ items)
      by true passes rest = absurd (cc rest.0)
      by false fails rest = (rest.0, shifted fails rest.1)

  passes-from : (before : Option A) (items : List A) (x : A) → fold (later test) before items ≡ Some x → (before ≡ Some x) ⊎ (test x ≡ true)
  passes-from before [] x is = inl is
  passes-from before (y ∷ items) x is = elim (passes-from (later test before y) items x is) [
    | inl here ↦ by (test y) refl here
    | inr passes ↦ inr passes
  ]
    where
      by : (b : Bool) → test y ≡ b → cond b (Some y) before ≡ Some x → (before ≡ Some x) ⊎ (test x ≡ true)
      by true passes here = inr (ap test (sym (same_Some y x here)) ∙ passes)
      by false fails here = inl here

  -- the last one that passes does pass
  pub last-passes : (items : List A) (x : A) → last_where test items ≡ Some x → test x ≡ true
  last-passes items x is = elim (passes-from None items x is) [ inl here ↦ absurd (cc here) | inr passes ↦ passes ]
