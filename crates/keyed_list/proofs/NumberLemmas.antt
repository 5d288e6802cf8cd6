-- Items whose numbers ascend: found by number, and the last of those that pass a test.
use Rattle.std.proofs.Common.{◌≡◌, ℕ, ◌<◌, Bool, true, List, [], ◌∷◌, remove, slice_get, Option, None, Some, inl, inr, refl, sym, ap, ◌∙◌, arith}
use Rattle.std.proofs.lemmas.Bool.{both_ways, cases_Bool}
use Rattle.std.proofs.lemmas.List.Quantifiers.{all_pairs_remove}
use Rattle.std.proofs.lemmas.Option.{slice_get_within}
use Rattle.keyed_list.specs.Keyed.{Ascends}
use Rattle.keyed_list.specs.Lists.{last_where}
use Rattle.keyed_list.specs.declared.keyed.Numbered.{Numbered}
use Rattle.keyed_list.proofs.AmongLemmas.{among-at, among-left, among-remove, pairs-behind_first, pairs-removed, pairs-tail, Among}
use Rattle.keyed_list.proofs.LastLemmas.{last-none, none-last, some-last, IsLast}

module _ {T : Type 0} where
  -- the number of an item is lower
  abbrev pub Lower : Numbered T → Numbered T → Type 0
  Lower a b = a.number < b.number

  -- of items no two have one number
  pub same-number : (items : List (Numbered T)) (a b : Numbered T) → Ascends items → Among a items → Among b items → a.number ≡ b.number → a ≡ b
  same-number [] a b ascends first second same = absurd first
  same-number (z ∷ items) a b ascends first second same = elim first [
    | inl here ↦ elim second [
      | inl also ↦ sym here ∙ also
      | inr later ↦
          let lower : z.number < b.number = pairs-behind_first Lower z items b ascends later in
          absurd (omega (arith, lower, same, ap (λ (x : Numbered T). x.number) here))
    ]
    | inr behind ↦ elim second [
      | inl also ↦
          let lower : z.number < a.number = pairs-behind_first Lower z items a ascends behind in
          absurd (omega (arith, lower, same, ap (λ (x : Numbered T). x.number) also))
      | inr later ↦ same-number items a b (pairs-tail Lower z items ascends) behind later same
    ]
  ]

  -- ### the last one that passes

  module _ (test : Numbered T → Bool) (items : List (Numbered T)) (ascends : Ascends items) where
    -- what is the last is found
    pub last-is : (x : Numbered T) → IsLast test Lower items x → last_where test items ≡ Some x
    last-is x last = by (last_where test items) refl
      where
        by : (o : Option (Numbered T)) → last_where test items ≡ o → o ≡ Some x
        by None is = absurd (both_ways (test x) (none-last test items is x last.among) last.passes)
        by (Some y) is =
            let other = some-last test Lower items y ascends is in
            elim (last.others y other.among other.passes) [
              | inl same ↦ ap (λ (z : Numbered T). Some z) same
              | inr lower ↦ elim (other.others x last.among last.passes) [
                | inl same ↦ ap (λ (z : Numbered T). Some z) (sym same)
                | inr higher ↦ absurd (omega (arith, lower, higher))
              ]
            ]

  -- where the same items of two lists pass, the last ones are the same
  pub last-agree : (test other : Numbered T → Bool) (items others : List (Numbered T)) → Ascends items → Ascends others
      → ((y : Numbered T) → Among y items → test y ≡ true → Among y others × (other y ≡ true))
      → ((y : Numbered T) → Among y others → other y ≡ true → Among y items × (test y ≡ true))
      → last_where test items ≡ last_where other others
  last-agree test other items others ascends ascend there back = by (last_where other others) refl
    where
      by : (o : Option (Numbered T)) → last_where other others ≡ o → last_where test items ≡ o
      by None is = last-none test items (λ y among. elim (cases_Bool (test y)) [
        | inl passes ↦
            let also = there y among passes in
            absurd (both_ways (other y) (none-last other others is y also.0) also.1)
        | inr fails ↦ fails
      ])
      by (Some x) is =
          let last = some-last other Lower others x ascend is in
          let here = back x last.among last.passes in
          last-is test items ascends x (record {
            among = here.0;
            passes = here.1;
            others = λ y among passes. let also = there y among passes in last.others y also.0 also.1;
          })

  module _ (items : List (Numbered T)) where
    -- ### one item goes

    module _ (place : ℕ) (x : Numbered T) (ascends : Ascends items) (at : slice_get items place ≡ Some x) where
      pub ascends-left : Ascends (remove items place)
      ascends-left = all_pairs_remove Lower items place (slice_get_within items place x at) ascends

      pub other-number : (y : Numbered T) → Among y (remove items place) → y.number ≡ x.number → ⊥
      other-number y among same = elim (pairs-removed Lower items place x y ascends at among) [
        | inl higher ↦ omega (arith, higher, same)
        | inr lower ↦ omega (arith, lower, same)
      ]

      -- an item with another number is left
      pub left-other : (y : Numbered T) → (y.number ≡ x.number → ⊥) → Among y items → Among y (remove items place)
      left-other y apart among =
          among-left items place x y at (λ same. apart (sym (ap (λ (z : Numbered T). z.number) same))) among

      -- the last one is, where it isn't the one that goes
      pub last-left : (test : Numbered T → Bool) → (last_where test items ≡ Some x → ⊥) → last_where test (remove items place) ≡ last_where test items
      last-left test other = by (last_where test items) refl
        where
          by : (o : Option (Numbered T)) → last_where test items ≡ o → last_where test (remove items place) ≡ o
          by None is =
              last-none test (remove items place) (λ y among. none-last test items is y (among-remove items place y among))
          by (Some y) is =
              let last = some-last test Lower items y ascends is in
              let apart : y.number ≡ x.number → ⊥ = λ same.
              other (is ∙ ap (λ (z : Numbered T). Some z) (same-number items y x ascends last.among (among-at items place x at) same)) in
              last-is test (remove items place) ascends-left y (record {
                among = left-other y apart last.among;
                passes = last.passes;
                others = λ z among. last.others z (among-remove items place z among);
              })
