-- What is among the items of a list, by recursion, and what is among mappings in order of EID.
use Rattle.std.proofs.Common.{◌≡◌, ◌⊎◌, ℕ, zero, suc, ◌<◌, ◌||◌, Bool, true, false, cond, List, [], ◌∷◌, ◌++◌, length, get_or, filter, map, slice_get, All, Contains, Some, Less, Equal, inl, inr, refl, sym, ap, subst, ◌∙◌, arith}
use Rattle.std.specs.List.{list_any}
use Rattle.std.proofs.lemmas.List.Elements.{All-cons, All-contains, All-nil, Contains-append_left, Contains-append_right, Contains-push}
use Rattle.std.proofs.lemmas.Option.{same_Some}
use Rattle.std.proofs.lemmas.Cmp.{tied_back}
use Rattle.mapping_records.proofs.OrderLemmas.{eid_order-total}
use Rattle.mapping_records.specs.Orders.{eid_order}
use Rattle.mapping_records.specs.declared.eid.Eid.{Eid}
use Rattle.map_cache.specs.Lists.{IsAscending, IsBelow}
use Rattle.map_cache.specs.declared.mapping.Mapping.{Mapping}

module _ {A : Type 0} where
  -- an item is in the list
  abbrev pub Among : A → List A → Type 0
  Among x [] = ⊥
  Among x (y ∷ items) = (y ≡ x) ⊎ Among x items

  among-index : (items : List A) (k : ℕ) (x : A) → k < length items → get_or items k x ≡ x → Among x items
  among-index [] k x within is = absurd (omega (arith, within))
  among-index (y ∷ items) zero x within is = inl is
  among-index (y ∷ items) (suc k) x within is = inr (among-index items k x (omega (arith, within)) is)

  pub among-contains : (items : List A) (x : A) → Contains items x → Among x items
  among-contains items x there = among-index items there.0 x there.1 there.2

  pub contains-among : (items : List A) (x : A) → Among x items → Contains items x
  contains-among [] x among = absurd among
  contains-among (y ∷ items) x among = elim among [
    | inl is ↦ subst (Contains (y ∷ items)) is (Contains-append_left (y ∷ []) items y (Contains-push [] y))
    | inr later ↦ Contains-append_right (y ∷ []) items x (contains-among items x later)
  ]

  pub among-place : (items : List A) (k : ℕ) (x : A) → slice_get items k ≡ Some x → Among x items
  among-place [] k x is = absurd (cc is)
  among-place (y ∷ items) zero x is = inl (same_Some y x is)
  among-place (y ∷ items) (suc k) x is = inr (among-place items k x is)

  -- where an item stands
  pub record IsAt (items : List A) (x : A) : Type 0 where
    pub place : ℕ
    pub at : slice_get items place ≡ Some x

  pub among-at : (items : List A) (x : A) → Among x items → IsAt items x
  among-at [] x among = absurd among
  among-at (y ∷ items) x among = elim among [
    | inl is ↦ record { place = 0; at = ap (λ (z : A). Some z) is }
    | inr later ↦
        let there = among-at items x later in
        record { place = suc there.place; at = there.at }
  ]

  -- what is among two lists
  pub among-left : (x : A) (items more : List A) → Among x items → Among x (items ++ more)
  among-left x [] more among = absurd among
  among-left x (y ∷ items) more among = elim among [ inl is ↦ inl is | inr later ↦ inr (among-left x items more later) ]

  pub among-right : (x : A) (items more : List A) → Among x more → Among x (items ++ more)
  among-right x [] more among = among
  among-right x (y ∷ items) more among = inr (among-right x items more among)

  pub among-either : (x : A) (items more : List A) → Among x (items ++ more) → Among x items ⊎ Among x more
  among-either x [] more among = inr among
  among-either x (y ∷ items) more among = elim among [
    | inl is ↦ inl (inl is)
    | inr later ↦ elim (among-either x items more later) [ inl here ↦ inl (inr here) | inr behind ↦ inr behind ]
  ]

  -- a fact of all is one of each that is among them
  pub all-among : (P : A → Type 0) (items : List A) → ((x : A) → Among x items → P x) → All P items
  all-among P [] each = All-nil P
  all-among P (y ∷ items) each = All-cons P y items (each y (inl refl)) (all-among P items (λ x among. each x (inr among)))

  pub among-all : (P : A → Type 0) (items : List A) (x : A) → All P items → Among x items → P x
  among-all P items x all among = All-contains P items x all (contains-among items x among)

  -- what passes is left
  pub among-filter : (test : A → Bool) (items : List A) (x : A) → test x ≡ true → Among x items → Among x (filter test items)
  among-filter test [] x passes among = absurd among
  among-filter test (y ∷ items) x passes among = by (test y) refl (among-filter test items x passes) among
    where
      by : (b : Bool) → test y ≡ b → (Among x items → Among x (filter test items)) → Among x (y ∷ items) → Among x (cond b (y ∷ filter test items) (filter test items))
      by true is rest among = elim among [ inl same ↦ inl same | inr later ↦ inr (rest later) ]
      by false is rest among = elim among [
        | inl same ↦ absurd (cc (is, passes, ap test same))
        | inr later ↦ rest later
      ]

  -- and what is left passes
  pub filter-among : (test : A → Bool) (items : List A) (x : A) → Among x (filter test items) → Among x items × (test x ≡ true)
  filter-among test [] x among = absurd among
  filter-among test (y ∷ items) x among = by (test y) refl (filter-among test items x) among
    where
      by : (b : Bool) → test y ≡ b → (Among x (filter test items) → Among x items × (test x ≡ true)) → Among x (cond b (y ∷ filter test items) (filter test items)) → Among x (y ∷ items) × (test x ≡ true)
      by true is rest among = elim among [
        | inl same ↦ (inl same, ap test (sym same) ∙ is)
        | inr later ↦ (inr (rest later).0, (rest later).1)
      ]
      by false is rest among = (inr (rest among).0, (rest among).1)

  -- one of the items that passes
  pub record IsPassing (test : A → Bool) (items : List A) : Type 0 where
    pub item : A
    pub among : Among item items
    pub passes : test item ≡ true

  pub any-among : (test : A → Bool) (items : List A) (x : A) → test x ≡ true → Among x items → list_any test items ≡ true
  any-among test [] x passes among = absurd among
  any-among test (y ∷ items) x passes among = elim among [
    | inl same ↦ ap (λ b. b || list_any test items) (ap test same ∙ passes)
    | inr later ↦ by (test y) (any-among test items x passes later)
  ]
    where
      by : (b : Bool) → list_any test items ≡ true → (b || list_any test items) ≡ true
      by true is = refl
      by false is = is

  pub among-any : (test : A → Bool) (items : List A) → list_any test items ≡ true → IsPassing test items
  among-any test [] is = absurd (cc is)
  among-any test (y ∷ items) is = by (test y) refl (among-any test items) is
    where
      by : (b : Bool) → test y ≡ b → (list_any test items ≡ true → IsPassing test items) → (b || list_any test items) ≡ true → IsPassing test (y ∷ items)
      by true passes rest is = record { item = y; among = inl refl; passes = passes }
      by false passes rest is = record { item = (rest is).item; among = inr (rest is).among; passes = (rest is).passes }

module _ {A B : Type 0} (f : A → B) where
  -- an item of which the function makes another
  pub record IsMade (items : List A) (made : B) : Type 0 where
    pub item : A
    pub among : Among item items
    pub is : f item ≡ made

  pub map-among : (items : List A) (made : B) → Among made (map f items) → IsMade items made
  map-among [] made among = absurd among
  map-among (x ∷ items) made among = elim among [
    | inl is ↦ record { item = x; among = inl refl; is = is }
    | inr later ↦
        let one = map-among items made later in
        record { item = one.item; among = inr one.among; is = one.is }
  ]

  pub among-map : (items : List A) (x : A) → Among x items → Among (f x) (map f items)
  among-map [] x among = absurd among
  among-map (y ∷ items) x among = elim among [ inl is ↦ inl (ap f is) | inr later ↦ inr (among-map items x later) ]

pub below-among : (eid : Eid) (items : List Mapping) (x : Mapping) → IsBelow eid items → Among x items → eid_order eid x.eid ≡ Less
below-among eid [] x below among = absurd among
below-among eid (y ∷ items) x below among = elim among [
  | inl same ↦ ap (λ (i : Mapping). eid_order eid i.eid) (sym same) ∙ below.0
  | inr later ↦ below-among eid items x below.1 later
]

-- of mappings in order no two have one EID
pub one-among : (items : List Mapping) (x y : Mapping) → IsAscending items → Among x items → Among y items → eid_order x.eid y.eid ≡ Equal → x ≡ y
one-among [] x y ascending first second ties = absurd first
one-among (z ∷ items) x y ascending first second ties = elim first [
  | inl x_here ↦ elim second [
    | inl y_here ↦ sym x_here ∙ y_here
    | inr y_later ↦ absurd (cc (below-among z.eid items y ascending.0 y_later, ap (λ (i : Mapping). eid_order i.eid y.eid) x_here, ties))
  ]
  | inr x_later ↦ elim second [
    | inl y_here ↦ absurd (cc (below-among z.eid items x ascending.0 x_later, ap (λ (i : Mapping). eid_order i.eid x.eid) y_here, tied_back eid_order-total x.eid y.eid ties))
    | inr y_later ↦ one-among items x y ascending.1 x_later y_later ties
  ]
]
