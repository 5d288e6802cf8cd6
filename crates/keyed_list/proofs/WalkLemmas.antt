-- A walk over the items of a key, from the greatest number down.
use Rattle.std.proofs.Common.{◌≡◌, ℕ, suc, ◌<◌, Bool, true, inl, inr, List, length, slice_get, slice_set, Option, None, Some, IfSome, is_some, refl, sym, ap, subst, ◌∙◌, arith}
use Rattle.std.specs.Option.{option_map}
use Rattle.std.proofs.lemmas.Bool.{and_from, and_left, and_parts, both_ways, cases_Bool, lt-ltb}
use Rattle.std.proofs.lemmas.Option.{same_Some, slice_get_within}
use Rattle.keyed_list.specs.Keyed.{has_key, is_below, is_key, item_at, last_of, Ascends, IsPlace}
use Rattle.keyed_list.specs.Lists.{last_where}
use Rattle.keyed_list.specs.declared.key.Key.{Key}
use Rattle.keyed_list.specs.declared.keyed.Marks.{Marks}
use Rattle.keyed_list.specs.declared.keyed.Numbered.{Numbered}
use Rattle.keyed_list.proofs.AmongLemmas.{Among}
use Rattle.keyed_list.proofs.EditLemmas.{set-at}
use Rattle.keyed_list.proofs.FewLemmas.{none-map}
use Rattle.keyed_list.proofs.FitsLemmas.{below-number}
use Rattle.keyed_list.proofs.LastLemmas.{last-among, last-passes, last-same, none-last, some-last, IsLast}
use Rattle.keyed_list.proofs.PlaceLemmas.{at-place}
use Rattle.keyed_list.proofs.SetLemmas.{made}

module _ {T : Type 0} where
  -- a number above that of an item, or 0
  abbrev pub above : Option (Numbered T) → ℕ
  above None = 0
  above (Some y) = suc y.number

  -- the item before one has a lower number
  walks-down : (marks_of : T → Marks) (key : Key) (items : List (Numbered T)) (number : ℕ) (o : Option (Numbered T)) → o ≡ last_where (is_below marks_of key number) items → above o < suc number
  walks-down marks_of key items number None is = omega arith
  walks-down marks_of key items number (Some y) is =
      let less = below-number marks_of key number y (last-passes (is_below marks_of key number) items y (sym is)) in
      omega (arith, less)

  module _ (marks_of : T → Marks) (key : Key) (items : List (Numbered T)) where
    -- the place of the next item, which is the last one below a bound, and what holds down to that bound
    pub record IsWalk (next : Option ℕ) (Done : ℕ → Type 0) : Type 0 where
      pub bound : ℕ
      pub leads : item_at items next ≡ last_where (is_below marks_of key bound) items
      pub done : Done bound

    -- the walk begins with the last item of the key
    module _ (ascends : Ascends items) where
      pub below-start : (y : Numbered T) → Among y items → is_key marks_of key y.item ≡ true → y.number < above (last_of marks_of key items)
      below-start y among has = by (last_of marks_of key items) refl
        where
          by : (o : Option (Numbered T)) → last_of marks_of key items ≡ o → y.number < above o
          by None none = absurd (both_ways _ (none-last (λ z. is_key marks_of key z.item) items none y among) has)
          by (Some x) some =
              elim ((some-last (λ z. is_key marks_of key z.item) (λ a b. a.number < b.number) items x ascends some).others y among has) [
                | inl same ↦ omega (arith, ap (λ (z : Numbered T). z.number) same)
                | inr lower ↦ omega (arith, lower)
              ]

      pub start-leads : last_of marks_of key items ≡ last_where (is_below marks_of key (above (last_of marks_of key items))) items
      start-leads =
          last-same (λ y. is_key marks_of key y.item) (is_below marks_of key (above (last_of marks_of key items))) None items (λ y among.
          elim (cases_Bool (is_key marks_of key y.item)) [
            | inl has ↦ has ∙ sym (and_from _ _ has (lt-ltb _ _ (below-start y among has)))
            | inr lacks ↦ lacks ∙ sym (and_left _ _ lacks)
          ])

    module _ (next : Option ℕ) (place : ℕ) (is : next ≡ Some place) where
      -- the item at the place is the last one below
      pub walk-at : (bound : ℕ) → item_at items next ≡ last_where (is_below marks_of key bound) items → slice_get items place ≡ last_where (is_below marks_of key bound) items
      walk-at bound leads = ap (item_at items) (sym is) ∙ leads

      -- it has the key
      pub walk-has : (bound : ℕ) → item_at items next ≡ last_where (is_below marks_of key bound) items → IfSome (slice_get items place) (λ y. is_key marks_of key y.item ≡ true)
      walk-has bound leads = by (slice_get items place) (walk-at bound leads)
        where
          by : (o : Option (Numbered T)) → o ≡ last_where (is_below marks_of key bound) items → IfSome o (λ y. is_key marks_of key y.item ≡ true)
          by None last = tt
          by (Some y) last =
              (and_parts _ _ (last-passes (is_below marks_of key bound) items y (sym last))).0

      module _ (x : Numbered T) (at : Some x ≡ slice_get items place) where
        pub walk-last : (bound : ℕ) → item_at items next ≡ last_where (is_below marks_of key bound) items → Ascends items → IsLast (is_below marks_of key bound) (λ a b. a.number < b.number) items x
        walk-last bound leads ascends =
            some-last (is_below marks_of key bound) (λ a b. a.number < b.number) items x ascends (sym (at ∙ walk-at bound leads))

        pub walk-before : (before : Option ℕ) → IfSome (slice_get items place) (λ y. item_at items before ≡ last_where (is_below marks_of key y.number) items) → item_at items before ≡ last_where (is_below marks_of key x.number) items
        walk-before before leads =
            subst (λ o. IfSome o (λ (y : Numbered T). item_at items before ≡ last_where (is_below marks_of key y.number) items)) (sym at) leads

        pub walk-smaller : (before : Option ℕ) → IfSome (slice_get items place) (λ y. item_at items before ≡ last_where (is_below marks_of key y.number) items) → above (item_at items before) < above (item_at items next)
        walk-smaller before leads =
            subst (λ n. above (item_at items before) < n) (ap above (at ∙ ap (item_at items) (sym is))) (walks-down marks_of key items x.number (item_at items before) (walk-before before leads))

      -- the item at the place is exchanged for another one with its keys
      module _ (x : Numbered T) (at : slice_get items place ≡ Some x) (item : T) where
        pub walk-set_has : marks_of item ≡ marks_of x.item → (bound : ℕ) → item_at items next ≡ last_where (is_below marks_of key bound) items
            → IfSome (slice_get (slice_set items place (made x item)) place) (λ y. is_key marks_of key y.item ≡ true)
        walk-set_has marks bound leads =
            let last = sym (sym at ∙ walk-at bound leads) in
            subst (λ o. IfSome o (λ (y : Numbered T). is_key marks_of key y.item ≡ true)) (sym (set-at items place x (made x item) at))
            (ap (λ (m : Marks). has_key m key) marks ∙ (and_parts _ _ (last-passes (is_below marks_of key bound) items x last)).0)

        pub walk-set : (before : Option ℕ) → IfSome (slice_get (slice_set items place (made x item)) place) (λ y. item_at (slice_set items place (made x item)) before ≡ last_where (is_below marks_of key y.number) (slice_set items place (made x item)))
            → item_at (slice_set items place (made x item)) before ≡ last_where (is_below marks_of key x.number) (slice_set items place (made x item))
        walk-set before leads =
            subst (λ o. IfSome o (λ (y : Numbered T). item_at (slice_set items place (made x item)) before ≡ last_where (is_below marks_of key y.number) (slice_set items place (made x item)))) (set-at items place x (made x item) at) leads

        pub walk-set_smaller : (before : Option ℕ) → IfSome (slice_get (slice_set items place (made x item)) place) (λ y. item_at (slice_set items place (made x item)) before ≡ last_where (is_below marks_of key y.number) (slice_set items place (made x item)))
            → above (item_at (slice_set items place (made x item)) before) < above (item_at items next)
        walk-set_smaller before leads =
            subst (λ n. above (item_at (slice_set items place (made x item)) before) < n) (ap above (sym at ∙ ap (item_at items) (sym is)))
            (walks-down marks_of key (slice_set items place (made x item)) x.number (item_at (slice_set items place (made x item)) before) (walk-set before leads))

    -- ### where it begins, and where it goes on

    module _ (ascends : Ascends items) (test : Numbered T → Bool) where
      pub place-none : (o : Option ℕ) → o ≡ None → o ≡ option_map (λ y. y.number) (last_where test items) → None ≡ last_where test items
      place-none o none is = sym (none-map (λ y. y.number) (last_where test items) (sym is ∙ none))

      module _ (number place : ℕ) (is : Some number ≡ option_map (λ y. y.number) (last_where test items)) (at : IsPlace number items place) where
        there : (o : Option (Numbered T)) → last_where test items ≡ o → slice_get items place ≡ o
        there None none = absurd (cc (is ∙ ap (option_map (λ y. y.number)) none))
        there (Some y) some =
            at-place number items place y ascends at (last-among test items y some)
            (sym (same_Some number y.number (is ∙ ap (option_map (λ z. z.number)) some)))

        pub place-found : slice_get items place ≡ last_where test items
        place-found = there (last_where test items) refl

        pub place-within : place < length items
        place-within = by (last_where test items) refl
          where
            by : (o : Option (Numbered T)) → last_where test items ≡ o → place < length items
            by None none = absurd (cc (is ∙ ap (option_map (λ y. y.number)) none))
            by (Some y) some = slice_get_within items place y (place-found ∙ some)

      -- the place of a number, if there is one
      pub place-if : (number result : Option ℕ) → is_some result ≡ is_some number → IfSome result (λ place. IfSome number (λ number. IsPlace number items place)) → number ≡ option_map (λ y. y.number) (last_where test items)
          → (item_at items result ≡ last_where test items) × IfSome result (λ place. place < length items)
      place-if None None same places is = (place-none None refl is, tt)
      place-if (Some number) None same places is = absurd (cc same)
      place-if None (Some place) same places is = absurd (cc same)
      place-if (Some number) (Some place) same places is = (place-found number place is places, place-within number place is places)

    -- what holds of the item at a place
    pub holds-at : (P : Numbered T → Type 0) (place : ℕ) (x : Numbered T) → slice_get items place ≡ Some x → IfSome (slice_get items place) P → P x
    holds-at P place x at is = subst (λ (o : Option (Numbered T)). IfSome o P) at is

    pub holds-of : (P : Numbered T → Type 0) (place : ℕ) (x : Numbered T) → slice_get items place ≡ Some x → P x → IfSome (slice_get items place) P
    holds-of P place x at is = subst (λ (o : Option (Numbered T)). IfSome o P) (sym at) is
