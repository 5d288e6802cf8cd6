-- The last item that has a key and passes a test, found from the greatest number down.
use Rattle.std.proofs.Common.{◌≡◌, ◌⊎◌, ℕ, suc, ◌<◌, ◌≤◌, ◌&&◌, Bool, true, false, List, drop, map, slice_get, All, Option, Some, None, IfSome, inl, inr, refl, sym, ap, subst, ◌∙◌, arith}
use Rattle.std.specs.Option.{option_map}
use Rattle.std.proofs.Math.Bool.{and-true}
use Rattle.std.proofs.lemmas.Bool.{and_from, and_left, and_parts, and_right, both_ways, cases_Bool, cases_lt, lt-ltb, ltb-true}
use Rattle.std.proofs.lemmas.Option.{slice_get-map}
use Rattle.keyed_list.specs.Keyed.{Ascends, is_below, is_key, item_at, last_of}
use Rattle.keyed_list.specs.Lists.{last_where}
use Rattle.keyed_list.specs.declared.key.Key.{Key}
use Rattle.keyed_list.specs.declared.keyed.Marks.{Marks}
use Rattle.keyed_list.specs.declared.keyed.Numbered.{Numbered}
use Rattle.keyed_list.proofs.AmongLemmas.{among-all, among-drop, pairs-behind, Among}
use Rattle.keyed_list.proofs.LastLemmas.{last-at, last-map, last-none, last-same, none-last, IsLast}

module _ {A B : Type 0} (f : B → A) where
  item_at-map : (items : List B) (place : Option ℕ) → item_at (map f items) place ≡ option_map f (item_at items place)
  item_at-map items None = refl
  item_at-map items (Some place) = slice_get-map f items place

module _ {T : Type 0} where
  -- none with this or a greater number passes
  abbrev pub NoneFrom : (Numbered T → Bool) → ℕ → List (Numbered T) → Type 0
  NoneFrom test bound items = (y : Numbered T) → Among y items → bound ≤ y.number → test y ≡ false

  pub none-from : (test : Numbered T → Bool) (bound : ℕ) (items : List (Numbered T)) → All (λ y. y.number < bound) items → NoneFrom test bound items
  none-from test bound items all y among least =
      let less = among-all (λ (z : Numbered T). z.number < bound) items y all among in
      absurd (omega (arith, less, least))

  -- the item has the key and passes
  abbrev pub fits : (T → Marks) → Key → (Numbered T → Bool) → Numbered T → Bool
  fits marks_of key passes y = is_key marks_of key y.item && passes y

  -- the last item that fits
  abbrev pub last_fit : (T → Marks) → Key → (Numbered T → Bool) → List (Numbered T) → Option (Numbered T)
  last_fit marks_of key passes items = last_where (fits marks_of key passes) items

  module _ (marks_of : T → Marks) (key : Key) where
    pub last-item : (passes : T → Bool) (items : List (Numbered T)) (o : Option (Numbered T)) → last_fit marks_of key (λ y. passes y.item) items ≡ o
        → option_map (λ y. y.item) o ≡ last_where (λ item. is_key marks_of key item && passes item) (map (λ y. y.item) items)
    last-item passes items o is =
        sym (last-map (λ y. y.item) (λ item. is_key marks_of key item && passes item) None items ∙ ap (option_map (λ y. y.item)) is)

    -- the last item that has a key, of the items without their numbers
    pub place-last : (items : List (Numbered T)) (place : Option ℕ) → item_at items place ≡ last_of marks_of key items → item_at (map (λ y. y.item) items) place ≡ last_where (is_key marks_of key) (map (λ y. y.item) items)
    place-last items place is =
        item_at-map (λ y. y.item) items place ∙ ap (option_map (λ y. y.item)) is ∙ sym (last-map (λ y. y.item) (is_key marks_of key) None items)

  -- the last item that has the first key of the one at a place
  pub last-like : (marks_of : T → Marks) (items : List (Numbered T)) (place last : ℕ) → IfSome (slice_get items place) (λ y. slice_get items last ≡ last_of marks_of (marks_of y.item).key items)
      → IfSome (slice_get (map (λ y. y.item) items) place) (λ item. slice_get (map (λ y. y.item) items) last ≡ last_where (is_key marks_of (marks_of item).key) (map (λ y. y.item) items))
  last-like marks_of items place last is =
      subst (λ (o : Option T). IfSome o (λ item. slice_get (map (λ y. y.item) items) last ≡ last_where (is_key marks_of (marks_of item).key) (map (λ y. y.item) items))) (sym (slice_get-map (λ y. y.item) items place))
      (by (slice_get items place) is)
    where
      by : (o : Option (Numbered T)) → IfSome o (λ y. slice_get items last ≡ last_of marks_of (marks_of y.item).key items)
          → IfSome (option_map (λ y. y.item) o) (λ item. slice_get (map (λ y. y.item) items) last ≡ last_where (is_key marks_of (marks_of item).key) (map (λ y. y.item) items))
      by None is = tt
      by (Some y) is = place-last marks_of (marks_of y.item).key items (Some last) is

  module _ (marks_of : T → Marks) (key : Key) (bound : ℕ) where
    pub below-number : (y : Numbered T) → is_below marks_of key bound y ≡ true → y.number < bound
    below-number y is = ltb-true _ _ (and_parts (is_key marks_of key y.item) _ is).1

    -- where all numbers are lower, the last of those below that has the key is the last that does
    pub last-below : (items : List (Numbered T)) → All (λ y. y.number < bound) items → last_of marks_of key items ≡ last_where (is_below marks_of key bound) items
    last-below items all =
        last-same (λ y. is_key marks_of key y.item) (is_below marks_of key bound) None items (λ y among. sym (ap (λ b. is_key marks_of key y.item && b) (lt-ltb _ _ (among-all (λ z. z.number < bound) items y all among)) ∙ and-true (is_key marks_of key y.item)))

    module _ (passes : Numbered T → Bool) (items : List (Numbered T)) (none : NoneFrom (fits marks_of key passes) bound items) where
      abbrev test : Numbered T → Bool
      test = fits marks_of key passes

      fails : (y : Numbered T) → Among y items → is_below marks_of key bound y ≡ false → test y ≡ false
      fails y among isnt = elim (cases_Bool (is_key marks_of key y.item)) [
        | inl has ↦ elim (cases_lt y.number bound) [
          | inl less ↦ absurd (both_ways _ isnt (and_from _ _ has (lt-ltb _ _ less)))
          | inr least ↦ none y among least
        ]
        | inr lacks ↦ and_left _ _ lacks
      ]

      -- none below has the key: none fits
      pub none-fits : None ≡ last_where (is_below marks_of key bound) items → last_fit marks_of key passes items ≡ None
      none-fits is =
          last-none test items (λ y among. fails y among (none-last (is_below marks_of key bound) items (sym is) y among))

      module _ (x : Numbered T) (ascends : Ascends items) (last : IsLast (is_below marks_of key bound) (λ a b. a.number < b.number) items x) where
        -- the last one below alone has its number or a greater one, of those that fit
        alone : (y : Numbered T) → Among y items → x.number ≤ y.number → (y ≡ x) ⊎ (test y ≡ false)
        alone y among least = elim (cases_Bool (is_below marks_of key bound y)) [
          | inl is ↦ elim (last.others y among is) [ inl same ↦ inl same | inr less ↦ absurd (omega (arith, least, less)) ]
          | inr isnt ↦ inr (fails y among isnt)
        ]

        -- it passes: it is the last of all that fit
        pub last-fits : (place : ℕ) → slice_get items place ≡ Some x → passes x ≡ true → last_fit marks_of key passes items ≡ Some x
        last-fits place at is = last-at test items place x at (and_from _ _ (and_parts _ _ last.passes).0 is)
            (λ y among. behind y among (pairs-behind (λ a b. a.number < b.number) items place x y ascends at among))
          where
            behind : (y : Numbered T) → Among y (drop (suc place) items) → x.number < y.number → test y ≡ false
            behind y among more = elim (alone y (among-drop items (suc place) y among) (omega (arith, more))) [
              | inl same ↦ absurd (omega (arith, more, ap (λ (z : Numbered T). z.number) same))
              | inr isnt ↦ isnt
            ]

        -- it doesn't: none from it on fits
        pub none-from-last : passes x ≡ false → NoneFrom test x.number items
        none-from-last isnt y among least = elim (alone y among least) [
          | inl same ↦ ap test same ∙ and_right (is_key marks_of key x.item) _ isnt
          | inr isnt_it ↦ isnt_it
        ]
