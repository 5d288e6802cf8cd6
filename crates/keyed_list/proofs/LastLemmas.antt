-- The last item that passes a test.
use Rattle.std.proofs.Common.{◌≡◌, ◌⊎◌, ℕ, zero, suc, ◌++◌, Bool, true, false, cond, List, [], ◌∷◌, drop, fold, insert, length, map, remove, slice_get, slice_set, Option, None, Some, AllPairs, inl, inr, refl, sym, ap, subst, ◌∙◌}
use Rattle.std.specs.Option.{option_map}
use Rattle.std.proofs.lemmas.Option.{same_Some}
use Rattle.keyed_list.specs.Lists.{last_where, later}
use Rattle.keyed_list.proofs.AmongLemmas.{Among, pairs-behind_first, pairs-tail}

module _ {A : Type 0} (test : A → Bool) where
  none-from : (items : List A) (before : Option A) → ((x : A) → Among x items → test x ≡ false) → fold (later test) before items ≡ before
  none-from [] before fails = refl
  none-from (x ∷ items) before fails =
      none-from items (later test before x) (λ y among. fails y (inr among)) ∙ ap (λ b. cond b (Some x) before) (fails x (inl refl))

  -- where none passes, there is none
  pub last-none : (items : List A) → ((x : A) → Among x items → test x ≡ false) → last_where test items ≡ None
  last-none items fails = none-from items None fails

  -- where there is no item, none passes
  pub last-empty : (items : List A) → length items ≡ 0 → None ≡ last_where test items
  last-empty [] none = refl
  last-empty (x ∷ items) none = absurd (cc none)

  last-from : (items : List A) (n : ℕ) (x : A) (before : Option A) → slice_get items n ≡ Some x → test x ≡ true → ((y : A) → Among y (drop (suc n) items) → test y ≡ false) → fold (later test) before items ≡ Some x
  last-from [] n x before is passes fails = absurd (cc is)
  last-from (y ∷ items) zero x before is passes fails =
      none-from items (later test before y) fails
      ∙ ap (λ b. cond b (Some y) before) (ap test (same_Some y x is) ∙ passes)
      ∙ is
  last-from (y ∷ items) (suc n) x before is passes fails = last-from items n x (later test before y) is passes fails

  -- one that passes, while none behind it does, is the last
  pub last-at : (items : List A) (n : ℕ) (x : A) → slice_get items n ≡ Some x → test x ≡ true → ((y : A) → Among y (drop (suc n) items) → test y ≡ false) → last_where test items ≡ Some x
  last-at items n x = last-from items n x None

  from-none : (items : List A) (before : Option A) → fold (later test) before items ≡ None → (before ≡ None) × ((x : A) → Among x items → test x ≡ false)
  from-none [] before is = (is, λ x among. absurd among)
  from-none (y ∷ items) before is =
      let rest = from-none items (later test before y) is in
      by (test y) refl rest.0 rest.1
    where
      by : (b : Bool) → test y ≡ b → cond b (Some y) before ≡ None → ((x : A) → Among x items → test x ≡ false) → (before ≡ None) × ((x : A) → Among x (y ∷ items) → test x ≡ false)
      by true passes none fails = absurd (cc none)
      by false passes none fails = (none, λ x among. elim among [ inl here ↦ ap test (sym here) ∙ passes | inr behind ↦ fails x behind ])

  -- where there is none, none passes
  pub none-last : (items : List A) → last_where test items ≡ None → (x : A) → Among x items → test x ≡ false
  none-last items is = (from-none items None is).1

  module _ (R : A → A → Type 0) where
    -- it passes, and stands in R behind all others that do
    pub record IsLast (items : List A) (x : A) : Type 0 where
      pub among : Among x items
      pub passes : test x ≡ true
      pub others : (y : A) → Among y items → test y ≡ true → (y ≡ x) ⊎ R y x

    last-or : (items : List A) (before : Option A) (x : A) → AllPairs R items → fold (later test) before items ≡ Some x → ((before ≡ Some x) × ((y : A) → Among y items → test y ≡ false)) ⊎ IsLast items x
    last-or [] before x pairs is = inl (is, λ y among. absurd among)
    last-or (z ∷ items) before x pairs is =
        elim (last-or items (later test before z) x (pairs-tail R z items pairs) is) [
          | inl none ↦ by (test z) refl none.0 none.1
          | inr last ↦ inr (record {
            among = inr last.among;
            passes = last.passes;
            others = λ y among passes. elim among [
              | inl here ↦ inr (subst (λ (w : A). R w x) here (pairs-behind_first R z items x pairs last.among))
              | inr behind ↦ last.others y behind passes
            ];
          })
        ]
      where
        by : (b : Bool) → test z ≡ b → cond b (Some z) before ≡ Some x → ((y : A) → Among y items → test y ≡ false) → ((before ≡ Some x) × ((y : A) → Among y (z ∷ items) → test y ≡ false)) ⊎ IsLast (z ∷ items) x
        by true passes found fails =
            let same : z ≡ x = same_Some z x found in
            inr (record {
              among = inl same;
              passes = ap test (sym same) ∙ passes;
              others = λ y among also. elim among [
                | inl here ↦ inl (sym here ∙ same)
                | inr behind ↦ absurd (cc (fails y behind, also))
              ];
            })
        by false passes found fails =
            inl (found, λ y among. elim among [ inl here ↦ ap test (sym here) ∙ passes | inr behind ↦ fails y behind ])

    -- where one is answered, it is the last
    pub some-last : (items : List A) (x : A) → AllPairs R items → last_where test items ≡ Some x → IsLast items x
    some-last items x pairs is = elim (last-or items None x pairs is) [ inl none ↦ absurd (cc none.0) | inr last ↦ last ]

  pub last-passes : (items : List A) (x : A) → last_where test items ≡ Some x → test x ≡ true
  last-passes items x is = (some-last (λ a b. Unit {0}) items x (λ i j d less within. tt) is).passes

  pub last-among : (items : List A) (x : A) → last_where test items ≡ Some x → Among x items
  last-among items x is = (some-last (λ a b. Unit {0}) items x (λ i j d less within. tt) is).among

  last-behind : (items : List A) (x : A) (before : Option A) → fold (later test) before (items ++ x ∷ []) ≡ cond (test x) (Some x) (fold (later test) before items)
  last-behind [] x before = refl
  last-behind (y ∷ items) x before = last-behind items x (later test before y)

  -- with one more at the end
  pub last-more : (items : List A) (x : A) → last_where test (items ++ x ∷ []) ≡ cond (test x) (Some x) (last_where test items)
  last-more items x = last-behind items x None

  without-from : (items : List A) (place : ℕ) (x : A) (before : Option A) → slice_get items place ≡ Some x → test x ≡ false → fold (later test) before (remove items place) ≡ fold (later test) before items
  without-from [] place x before at fails = absurd (cc at)
  without-from (y ∷ items) zero x before at fails =
      ap (λ b. fold (later test) (cond b (Some y) before) items) (sym (ap test (same_Some y x at) ∙ fails))
  without-from (y ∷ items) (suc place) x before at fails = without-from items place x (later test before y) at fails

  -- without an item that fails
  pub last-without : (items : List A) (place : ℕ) (x : A) → slice_get items place ≡ Some x → test x ≡ false → last_where test (remove items place) ≡ last_where test items
  last-without items place x = without-from items place x None

  set-from : (items : List A) (place : ℕ) (x y : A) (before : Option A) → slice_get items place ≡ Some x → test x ≡ false → test y ≡ false → fold (later test) before (slice_set items place y) ≡ fold (later test) before items
  set-from [] place x y before at fails also = absurd (cc at)
  set-from (z ∷ items) zero x y before at fails also =
      ap (λ b. fold (later test) b items) (ap (λ b. cond b (Some y) before) also ∙ ap (λ b. cond b (Some z) before) (sym (ap test (same_Some z x at) ∙ fails)))
  set-from (z ∷ items) (suc place) x y before at fails also = set-from items place x y (later test before z) at fails also

  -- with one that fails in the place of one that does
  pub last-set : (items : List A) (place : ℕ) (x y : A) → slice_get items place ≡ Some x → test x ≡ false → test y ≡ false → last_where test (slice_set items place y) ≡ last_where test items
  last-set items place x y = set-from items place x y None

  insert-from : (items : List A) (place : ℕ) (x : A) (before : Option A) → test x ≡ false → fold (later test) before (insert items place x) ≡ fold (later test) before items
  insert-from items zero x before fails = ap (λ b. fold (later test) (cond b (Some x) before) items) fails
  insert-from [] (suc place) x before fails = ap (λ b. cond b (Some x) before) fails
  insert-from (y ∷ items) (suc place) x before fails = insert-from items place x (later test before y) fails

  -- with one more that fails
  pub last-insert : (items : List A) (place : ℕ) (x : A) → test x ≡ false → last_where test (insert items place x) ≡ last_where test items
  last-insert items place x = insert-from items place x None

module _ {A : Type 0} where
  -- the last by either of two tests that agree
  pub last-same : (test other : A → Bool) (before : Option A) (items : List A) → ((y : A) → Among y items → test y ≡ other y) → fold (later test) before items ≡ fold (later other) before items
  last-same test other before [] each = refl
  last-same test other before (y ∷ items) each =
      ap (λ b. fold (later test) (cond b (Some y) before) items) (each y (inl refl))
      ∙ last-same test other (later other before y) items (λ z among. each z (inr among))

  module _ {B : Type 0} (f : B → A) where
    later-map : (test : A → Bool) (before : Option B) (y : B) → later test (option_map f before) (f y) ≡ option_map f (later (λ b. test (f b)) before y)
    later-map test before y = by (test (f y))
      where
        by : (b : Bool) → cond b (Some (f y)) (option_map f before) ≡ option_map f (cond b (Some y) before)
        by true = refl
        by false = refl

    -- the last of what is made of items
    pub last-map : (test : A → Bool) (before : Option B) (items : List B) → fold (later test) (option_map f before) (map f items) ≡ option_map f (fold (later (λ b. test (f b))) before items)
    last-map test before [] = refl
    last-map test before (y ∷ items) =
        ap (λ o. fold (later test) o (map f items)) (later-map test before y)
        ∙ last-map test (later (λ b. test (f b)) before y) items
