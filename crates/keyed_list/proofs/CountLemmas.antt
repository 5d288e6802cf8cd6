-- How many items are young: as many as ages are.
use Rattle.std.proofs.Common.{◌≡◌, ℕ, zero, suc, ◌+◌, ◌-◌, ◌<◌, ◌≤◌, ◌==◌, ◌&&◌, nat_lt, not, Bool, true, false, cond, List, [], ◌∷◌, count_by, filter, length, map, slice_get, IfSome, Less, inl, inr, refl, sym, ap, subst, ◌∙◌, arith}
use Rattle.std.specs.List.{AllByRecursion, IsDistinct}
use Rattle.std.specs.Ordering.{eq_by_cmp}
use Rattle.std.specs.Set.{is_member}
use Rattle.std.proofs.lemmas.Bool.{and_parts, and_right, eqb-true, le-ltb, lt-ltb, ltb-false, ltb-true, ne_eqb, not-true}
use Rattle.std.proofs.lemmas.Cmp.{eq_by_cmp_equiv}
use Rattle.std.proofs.lemmas.List.Sums.{length-filter}
use Rattle.std.proofs.lemmas.Map.Keys.{IsDistinct-from_sorted}
use Rattle.std.proofs.lemmas.Map.Made.{is_member-filter, length-le_from_is_member}
use Rattle.ordered_set.specs.Keys.{Ascends as KeysAscend}
use Rattle.keyed_list.specs.Keyed.{Ascends, is_young, IsKeyed}
use Rattle.keyed_list.specs.Keys.{age_order, age_order-total}
use Rattle.keyed_list.specs.declared.key.Age.{Age}
use Rattle.keyed_list.specs.declared.key.Mark.{Mark}
use Rattle.keyed_list.specs.declared.keyed.Marks.{Marks}
use Rattle.keyed_list.specs.declared.keyed.Numbered.{Numbered}
use Rattle.keyed_list.proofs.AmongLemmas.{Among, pairs-behind_first, pairs-tail}
use Rattle.keyed_list.proofs.FewLemmas.{age_of, ages-had, member-has, sorted}
use Rattle.keyed_list.proofs.OrderLemmas.{is_eq-age, lesser-moment}

module _ {A : Type 0} where
  -- what holds of each holds of those that are left
  all-filter : (P : A → Type 0) (test : A → Bool) (items : List A) → AllByRecursion P items → AllByRecursion P (filter test items)
  all-filter P test [] all = tt
  all-filter P test (x ∷ items) all = by (test x) (all-filter P test items all.1)
    where
      by : (b : Bool) → AllByRecursion P (filter test items) → AllByRecursion P (cond b (x ∷ filter test items) (filter test items))
      by true rest = (all.0, rest)
      by false rest = rest

  distinct-filter : (eq : A → A → Bool) (test : A → Bool) (items : List A) → IsDistinct eq items → IsDistinct eq (filter test items)
  unfolding IsDistinct
  distinct-filter eq test [] apart = tt
  distinct-filter eq test (x ∷ items) apart = by (test x) (distinct-filter eq test items apart.1)
    where
      by : (b : Bool) → IsDistinct eq (filter test items) → IsDistinct eq (cond b (x ∷ filter test items) (filter test items))
      by true rest = (all-filter (λ y. eq x y ≡ false) test items apart.0, rest)
      by false rest = rest

  -- one of the items, at a place
  record Picked (P : A → Type 0) (items : List A) : Type 0 where
    item : A
    among : Among item items
    holds : P item

  picked : (P : A → Type 0) (items : List A) (n : ℕ) → n < length items → IfSome (slice_get items n) P → Picked P items
  picked P [] n within is = absurd (omega (arith, within))
  picked P (x ∷ items) zero within is = record { item = x; among = inl refl; holds = is }
  picked P (x ∷ items) (suc n) within is =
      let rest = picked P items n (omega (arith, within)) is in
      record { item = rest.item; among = inr rest.among; holds = rest.holds }

module _ (now life : ℕ) where
  -- at a moment an age is less than that
  abbrev pub young_age : Age → Bool
  young_age age = nat_lt (now - age.moment) life

  older : (a b : Age) → a.moment ≤ b.moment → young_age b ≡ false → young_age a ≡ false
  older a b least old = le-ltb _ _ (omega (arith, least, ltb-false _ _ old))

  younger : (a b : Age) → a.moment ≤ b.moment → young_age a ≡ true → young_age b ≡ true
  younger a b least young = lt-ltb _ _ (omega (arith, least, ltb-true _ _ young))

  all-young : (ages : List Age) → ((a : Age) → Among a ages → young_age a ≡ true) → length (filter young_age ages) ≡ length ages
  all-young [] each = refl
  all-young (a ∷ ages) each =
      ap (λ b. length (cond b (a ∷ filter young_age ages) (filter young_age ages))) (each a (inl refl))
      ∙ ap suc (all-young ages (λ x among. each x (inr among)))

  -- those before the place are old, the others young
  pub young-behind : (ages : List Age) (p : ℕ) → KeysAscend age_order ages → p ≤ length ages → (0 < p → IfSome (slice_get ages (p - 1)) (λ a. not (young_age a) ≡ true)) → IfSome (slice_get ages p) (λ a. not (young_age a) ≡ false) → length (filter young_age ages) + p ≡ length ages
  young-behind [] p ascends within before behind = omega (arith, within)
  young-behind (a ∷ ages) zero ascends within before behind =
      let first : young_age a ≡ true = not-false (young_age a) behind in
      let all = all-young (a ∷ ages) (λ x among. elim among [
        | inl here ↦ ap young_age (sym here) ∙ first
        | inr later ↦ younger a x (lesser-moment a x (pairs-behind_first (λ x y. age_order x y ≡ Less) a ages x ascends later)) first
      ]) in
      omega (arith, all)
    where
      not-false : (b : Bool) → not b ≡ false → b ≡ true
      not-false true is = refl
      not-false false is = sym is
  young-behind (a ∷ ages) (suc p) ascends within before behind =
      let rest = young-behind ages p (pairs-tail (λ x y. age_order x y ≡ Less) a ages ascends) (omega (arith, within)) (λ some. later p before some) behind in
      let old = first p (omega (arith, within)) before in
      let left : length (filter young_age (a ∷ ages)) ≡ length (filter young_age ages) = ap (λ b. length (cond b (a ∷ filter young_age ages) (filter young_age ages))) old in
      omega (arith, rest, left)
    where
      -- the item behind the first
      moved : (n : ℕ) → (0 < suc (suc n) → IfSome (slice_get (a ∷ ages) (suc (suc n) - 1)) (λ x. not (young_age x) ≡ true)) → IfSome (slice_get ages n) (λ x. not (young_age x) ≡ true)
      moved n is =
          let same : suc (suc n) - 1 ≡ suc n = omega arith in
          subst (λ (k : ℕ). IfSome (slice_get (a ∷ ages) k) (λ x. not (young_age x) ≡ true)) same (is (omega arith))

      later : (n : ℕ) → (0 < suc n → IfSome (slice_get (a ∷ ages) (suc n - 1)) (λ x. not (young_age x) ≡ true)) → 0 < n → IfSome (slice_get ages (n - 1)) (λ x. not (young_age x) ≡ true)
      later zero is some = absurd (omega (arith, some))
      later (suc n) is some =
          let same : n ≡ suc n - 1 = omega arith in
          subst (λ (k : ℕ). IfSome (slice_get ages k) (λ x. not (young_age x) ≡ true)) same (moved n is)

      first : (n : ℕ) → n ≤ length ages → (0 < suc n → IfSome (slice_get (a ∷ ages) (suc n - 1)) (λ x. not (young_age x) ≡ true)) → young_age a ≡ false
      first zero short is =
          let same : suc zero - 1 ≡ zero = omega arith in
          not-true (young_age a) (subst (λ (k : ℕ). IfSome (slice_get (a ∷ ages) k) (λ x. not (young_age x) ≡ true)) same (is (omega arith)))
      first (suc n) short is =
          let one = picked (λ x. not (young_age x) ≡ true) ages n (omega (arith, short)) (moved n is) in
          older a one.item (lesser-moment a one.item (pairs-behind_first (λ x y. age_order x y ≡ Less) a ages one.item ascends one.among)) (not-true (young_age one.item) one.holds)

module _ {T : Type 0} (marks_of : T → Marks) where
  apart : (x : Numbered T) (some : List (Numbered T)) → ((y : Numbered T) → Among y some → x.number < y.number) → AllByRecursion (λ a. eq_by_cmp age_order (age_of marks_of x) a ≡ false) (map (age_of marks_of) some)
  apart x [] each = tt
  apart x (y ∷ some) each = (
    is_eq-age (age_of marks_of x) (age_of marks_of y)
        ∙ and_right ((age_of marks_of x).moment == (age_of marks_of y).moment) _ (ne_eqb x.number y.number (λ same. absurd (omega (arith, same, each y (inl refl))))),
    apart x some (λ z among. each z (inr among)),
  )

  -- no two items have one age
  distinct : (some : List (Numbered T)) → Ascends some → IsDistinct (eq_by_cmp age_order) (map (age_of marks_of) some)
  unfolding IsDistinct
  distinct [] ascends = tt
  distinct (x ∷ some) ascends = (
    apart x some (λ y among. pairs-behind_first (λ a b. a.number < b.number) x some y ascends among),
    distinct some (pairs-tail (λ a b. a.number < b.number) x some ascends),
  )

  module _ (now life : ℕ) where
    young-items : (some : List (Numbered T)) → length (filter (young_age now life) (map (age_of marks_of) some)) ≡ length (filter (is_young marks_of now life) (map (λ x. x.item) some))
    young-items [] = refl
    young-items (x ∷ some) = by (is_young marks_of now life x.item) (young-items some)
      where
        by : (b : Bool) → length (filter (young_age now life) (map (age_of marks_of) some)) ≡ length (filter (is_young marks_of now life) (map (λ x. x.item) some))
            → length (cond b (age_of marks_of x ∷ filter (young_age now life) (map (age_of marks_of) some)) (filter (young_age now life) (map (age_of marks_of) some)))
            ≡ length (cond b (x.item ∷ filter (is_young marks_of now life) (map (λ x. x.item) some)) (filter (is_young marks_of now life) (map (λ x. x.item) some)))
        by true is = ap suc is
        by false is = is

    module _ (items : List (Numbered T)) (index : List Mark) (ages : List Age) (keyed : IsKeyed marks_of items index ages) (ascends : KeysAscend age_order ages) where
      alike : (q x : Age) → eq_by_cmp age_order q x ≡ true → young_age now life q ≡ young_age now life x
      alike q x same =
          ap (λ m. nat_lt (now - m) life) (eqb-true q.moment x.moment (and_parts _ _ (sym (is_eq-age q x) ∙ same)).0)

      -- an age is among those of the ages that are young exactly where it is among those of the items
      members : (q : Age) → is_member (eq_by_cmp age_order) (filter (young_age now life) ages) q ≡ is_member (eq_by_cmp age_order) (filter (young_age now life) (map (age_of marks_of) items)) q
      members q =
          is_member-filter (eq_by_cmp_equiv age_order-total) (young_age now life) q (alike q) ages
          ∙ ap (λ b. b && young_age now life q) (member-has age_order age_order-total ages q ∙ keyed.aged q ∙ sym (ages-had marks_of q items) ∙ sym (member-has age_order age_order-total (map (age_of marks_of) items) q))
          ∙ sym (is_member-filter (eq_by_cmp_equiv age_order-total) (young_age now life) q (alike q) (map (age_of marks_of) items))

      same-length : length (filter (young_age now life) ages) ≡ length (filter (young_age now life) (map (age_of marks_of) items))
      same-length =
          let one = length-le_from_is_member (eq_by_cmp_equiv age_order-total) (filter (young_age now life) ages) (filter (young_age now life) (map (age_of marks_of) items)) (distinct-filter (eq_by_cmp age_order) (young_age now life) ages (IsDistinct-from_sorted age_order ages (sorted age_order age_order-total ages ascends))) (λ q is. sym (members q) ∙ is) in
          let other = length-le_from_is_member (eq_by_cmp_equiv age_order-total) (filter (young_age now life) (map (age_of marks_of) items)) (filter (young_age now life) ages) (distinct-filter (eq_by_cmp age_order) (young_age now life) (map (age_of marks_of) items) (distinct items keyed.ascends)) (λ q is. members q ∙ is) in
          omega (arith, one, other)

      -- as many items are young as ages stand from the place on
      pub young-count : (p : ℕ) → p ≤ length ages → (0 < p → IfSome (slice_get ages (p - 1)) (λ a. not (young_age now life a) ≡ true)) → IfSome (slice_get ages p) (λ a. not (young_age now life a) ≡ false) → length ages - p ≡ count_by (is_young marks_of now life) (map (λ x. x.item) items)
      young-count p within before behind =
          omega (arith, young-behind now life ages p ascends within before behind, same-length, young-items items, length-filter (is_young marks_of now life) (map (λ x. x.item) items))
