-- What is among the items of a list, and what holds between those before and those behind.
use Rattle.std.proofs.Common.{◌≡◌, ◌⊎◌, ℕ, zero, suc, ◌||◌, ◌&&◌, ◌++◌, Bool, true, false, List, [], ◌∷◌, drop, map, remove, slice_get, All, AllPairs, Some, inl, inr, refl, sym, ap, ap₂, subst, ◌∙◌, arith}
use Rattle.std.specs.List.{list_all, list_any}
use Rattle.std.proofs.lemmas.Option.{same_Some}

module _ {A : Type 0} where
  -- an item is in the list
  abbrev pub Among : A → List A → Type 0
  Among x [] = ⊥
  Among x (y ∷ items) = (y ≡ x) ⊎ Among x items

  pub among-at : (items : List A) (n : ℕ) (x : A) → slice_get items n ≡ Some x → Among x items
  among-at [] n x at = absurd (cc at)
  among-at (y ∷ items) zero x at = inl (same_Some y x at)
  among-at (y ∷ items) (suc n) x at = inr (among-at items n x at)

  pub among-drop : (items : List A) (n : ℕ) (x : A) → Among x (drop n items) → Among x items
  among-drop [] zero x among = among
  among-drop [] (suc n) x among = among
  among-drop (y ∷ items) zero x among = among
  among-drop (y ∷ items) (suc n) x among = inr (among-drop items n x among)

  pub among-all : (P : A → Type 0) (items : List A) (x : A) → All P items → Among x items → P x
  among-all P [] x all among = absurd among
  among-all P (y ∷ items) x all among = elim among [
    | inl here ↦ subst P here (all 0 y (omega arith))
    | inr later ↦ among-all P items x (λ k d within. all (suc k) d (omega (arith, within))) later
  ]

  -- what holds of each item
  pub all-among : (P : A → Type 0) (items : List A) → ((x : A) → Among x items → P x) → All P items
  all-among P [] each k d within = absurd (omega (arith, within))
  all-among P (y ∷ items) each zero d within = each y (inl refl)
  all-among P (y ∷ items) each (suc k) d within = all-among P items (λ x among. each x (inr among)) k d (omega (arith, within))

  -- ### one more item, or one less

  pub among-more : (items : List A) (x y : A) → Among y items → Among y (items ++ x ∷ [])
  among-more [] x y among = absurd among
  among-more (z ∷ items) x y among = elim among [ inl here ↦ inl here | inr later ↦ inr (among-more items x y later) ]

  pub among-end : (items : List A) (x : A) → Among x (items ++ x ∷ [])
  among-end [] x = inl refl
  among-end (z ∷ items) x = inr (among-end items x)

  -- an item is among the first ones, or the last
  pub among-first_last : (items : List A) (x y : A) → Among y (items ++ x ∷ []) → Among y items ⊎ (x ≡ y)
  among-first_last [] x y among = elim among [ inl here ↦ inr here | inr none ↦ absurd none ]
  among-first_last (z ∷ items) x y among = elim among [
    | inl here ↦ inl (inl here)
    | inr later ↦ elim (among-first_last items x y later) [ inl first ↦ inl (inr first) | inr last ↦ inr last ]
  ]

  pub among-remove : (items : List A) (place : ℕ) (y : A) → Among y (remove items place) → Among y items
  among-remove [] zero y among = among
  among-remove [] (suc place) y among = among
  among-remove (z ∷ items) zero y among = inr among
  among-remove (z ∷ items) (suc place) y among = elim among [
    | inl here ↦ inl here
    | inr later ↦ inr (among-remove items place y later)
  ]

  -- all but the item at the place are left
  pub among-left : (items : List A) (place : ℕ) (x y : A) → slice_get items place ≡ Some x → (x ≡ y → ⊥) → Among y items → Among y (remove items place)
  among-left [] place x y at apart among = absurd among
  among-left (z ∷ items) zero x y at apart among = elim among [
    | inl here ↦ absurd (apart (sym (same_Some z x at) ∙ here))
    | inr later ↦ later
  ]
  among-left (z ∷ items) (suc place) x y at apart among = elim among [
    | inl here ↦ inl here
    | inr later ↦ inr (among-left items place x y at apart later)
  ]

  -- one of the items that passes
  pub record IsPassing (test : A → Bool) (items : List A) : Type 0 where
    pub item : A
    pub among : Among item items
    pub passes : test item ≡ true

  pub any-among : (test : A → Bool) (items : List A) (x : A) → test x ≡ true → Among x items → list_any test items ≡ true
  any-among test [] x passes among = absurd among
  any-among test (y ∷ items) x passes among = elim among [
    | inl here ↦ ap (λ b. b || list_any test items) (ap test here ∙ passes)
    | inr later ↦ by (test y) (any-among test items x passes later)
  ]
    where
      by : (b : Bool) → list_any test items ≡ true → (b || list_any test items) ≡ true
      by true is = refl
      by false is = is

  pub among-any : (test : A → Bool) (items : List A) → list_any test items ≡ true → IsPassing test items
  among-any test [] is = absurd (cc is)
  among-any test (y ∷ items) is = by (test y) refl (among-any test items) is
    where
      by : (b : Bool) → test y ≡ b → (list_any test items ≡ true → IsPassing test items) → (b || list_any test items) ≡ true → IsPassing test (y ∷ items)
      by true passes rest is = record { item = y; among = inl refl; passes = passes }
      by false passes rest is = record { item = (rest is).item; among = inr (rest is).among; passes = (rest is).passes }

  -- a test that each passes
  pub each-passes : (test : A → Bool) (items : List A) → ((x : A) → Among x items → test x ≡ true) → list_all test items ≡ true
  each-passes test [] each = refl
  each-passes test (y ∷ items) each =
      ap₂ (λ a b. a && b) (each y (inl refl)) (each-passes test items (λ x among. each x (inr among)))

  -- ### a relation of each item to all behind it

  module _ (R : A → A → Type 0) where
    pub pairs-behind_first : (x : A) (items : List A) (y : A) → AllPairs R (x ∷ items) → Among y items → R x y
    pairs-behind_first x items y pairs among =
        among-all (R x) items y (λ k d within. pairs 0 (suc k) d (omega arith) (omega (arith, within))) among

    pub pairs-tail : (x : A) (items : List A) → AllPairs R (x ∷ items) → AllPairs R items
    pairs-tail x items pairs = λ i j d less within. pairs (suc i) (suc j) d (omega (arith, less)) (omega (arith, within))

    -- one at a place, and one behind it
    pub pairs-behind : (items : List A) (n : ℕ) (x y : A) → AllPairs R items → slice_get items n ≡ Some x → Among y (drop (suc n) items) → R x y
    pairs-behind [] n x y pairs is among = absurd (cc is)
    pairs-behind (z ∷ items) zero x y pairs is among =
        subst (λ (w : A). R w y) (same_Some z x is) (pairs-behind_first z items y pairs among)
    pairs-behind (z ∷ items) (suc n) x y pairs is among = pairs-behind items n x y (pairs-tail z items pairs) is among

    -- one that was removed, and one that is left
    pub pairs-removed : (items : List A) (place : ℕ) (x y : A) → AllPairs R items → slice_get items place ≡ Some x → Among y (remove items place) → R x y ⊎ R y x
    pairs-removed [] place x y pairs at among = absurd (cc at)
    pairs-removed (z ∷ items) zero x y pairs at among =
        inl (subst (λ (w : A). R w y) (same_Some z x at) (pairs-behind_first z items y pairs among))
    pairs-removed (z ∷ items) (suc place) x y pairs at among = elim among [
      | inl here ↦ inr (subst (λ (w : A). R w x) here (pairs-behind_first z items x pairs (among-at items place x at)))
      | inr later ↦ pairs-removed items place x y (pairs-tail z items pairs) at later
    ]

-- an item of which one of a mapped list was made
pub among-mapped : {A B : Type 0} (f : A → B) (items : List A) (y : B) → Among y (map f items) → (x : A) × Among x items × (f x ≡ y)
among-mapped f [] y among = absurd among
among-mapped f (z ∷ items) y among = elim among [
  | inl here ↦ (z, inl refl, here)
  | inr later ↦ let rest = among-mapped f items y later in (rest.0, inr rest.1, rest.2)
]

pub among-map : {A B : Type 0} (f : A → B) (items : List A) (x : A) → Among x items → Among (f x) (map f items)
among-map f [] x among = absurd among
among-map f (z ∷ items) x among = elim among [
  | inl here ↦ inl (ap f here)
  | inr later ↦ inr (among-map f items x later)
]
