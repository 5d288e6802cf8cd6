-- How many terms pass, by places in their order.
use Rattle.std.proofs.Common.{◌≡◌, ℕ, zero, suc, ◌+◌, ◌-◌, ◌<◌, ◌≤◌, ◌&&◌, ◌||◌, Bool, true, false, cond, List, [], ◌∷◌, count_by, filter, slice_get, length, IfSome, Ordering, Less, inl, inr, refl, sym, ap, subst, ◌∙◌, arith, true≢false}
use Rattle.std.specs.List.{AllByRecursion, IsDistinct}
use Rattle.std.proofs.lemmas.Bool.{false_from_ne_true}
use Rattle.keyed_list.proofs.AmongLemmas.{Among, pairs-behind_first, pairs-tail}
use Rattle.ordered_set.specs.Keys.{Ascends}
use Rattle.request_queue.proofs.OpenLemmas.{count-more}

module _ {A : Type 0} where
  all-filter : (P : A → Type 0) (test : A → Bool) (items : List A) → AllByRecursion P items → AllByRecursion P (filter test items)
  all-filter P test [] all = tt
  all-filter P test (x ∷ items) all = by (test x) (all-filter P test items all.1)
    where
      by : (b : Bool) → AllByRecursion P (filter test items) → AllByRecursion P (cond b (x ∷ filter test items) (filter test items))
      by true rest = (all.0, rest)
      by false rest = rest

  -- those that are left are there once
  pub apart-filter : (eq : A → A → Bool) (test : A → Bool) (items : List A) → IsDistinct eq items → IsDistinct eq (filter test items)
  unfolding IsDistinct
  apart-filter eq test [] apart = tt
  apart-filter eq test (x ∷ items) apart = by (test x) (apart-filter eq test items apart.1)
    where
      by : (b : Bool) → IsDistinct eq (filter test items) → IsDistinct eq (cond b (x ∷ filter test items) (filter test items))
      by true rest = (all-filter (λ y. eq x y ≡ false) test items apart.0, rest)
      by false rest = rest

  -- one of the items, at a place
  record Picked (P : A → Type 0) (items : List A) : Type 0 where
    item : A
    among : Among item items
    holds : P item

  picked : (P : A → Type 0) (items : List A) (n : ℕ) → n < length items → IfSome (slice_get items n) P → Picked P items
  picked P [] n within is = absurd (omega (arith, within))
  picked P (x ∷ items) zero within is = record { item = x; among = inl refl; holds = is }
  picked P (x ∷ items) (suc n) within is =
      let rest = picked P items n (omega (arith, within)) is in
      record { item = rest.item; among = inr rest.among; holds = rest.holds }

  count-none : (test : A → Bool) (items : List A) → ((x : A) → Among x items → test x ≡ false) → count_by test items ≡ 0
  count-none test [] none = refl
  count-none test (x ∷ items) none =
      let here : cond {A = ℕ} (test x) 1 0 ≡ 0 = ap (λ b. cond {A = ℕ} b 1 0) (none x (inl refl)) in
      omega (arith, here, count-more test x items, count-none test items (λ y among. none y (inr among)))

  -- what passes a test passes one of two, and none passes both
  pub count-parts : (all some others : A → Bool) (items : List A) → ((x : A) → all x ≡ (some x || others x)) → ((x : A) → (some x && others x) ≡ false) → count_by all items ≡ count_by some items + count_by others items
  count-parts all some others [] each apart = refl
  count-parts all some others (x ∷ items) each apart =
      let here = by (all x) (some x) (others x) (each x) (apart x) in
      omega (arith, here, count-more all x items, count-more some x items, count-more others x items, count-parts all some others items each apart)
    where
      by : (a s o : Bool) → a ≡ (s || o) → (s && o) ≡ false → cond {A = ℕ} a 1 0 ≡ cond s 1 0 + cond o 1 0
      by a true true is both = absurd (true≢false both)
      by a true false is both = ap (λ b. cond {A = ℕ} b 1 0) is
      by a false true is both = ap (λ b. cond {A = ℕ} b 1 0) is
      by a false false is both = ap (λ b. cond {A = ℕ} b 1 0) is

module _ {K : Type 0} (order : K → K → Ordering) (below : K → Bool) (lesser : (a b : K) → order a b ≡ Less → below b ≡ true → below a ≡ true) where
  -- as many keys are below as stand before the first that isn't
  pub count-place : (keys : List K) (p : ℕ) → Ascends order keys → p ≤ length keys → (0 < p → IfSome (slice_get keys (p - 1)) (λ a. below a ≡ true)) → IfSome (slice_get keys p) (λ a. below a ≡ false) → count_by below keys ≡ p
  count-place [] p ascends within before behind = omega (arith, within)
  count-place (a ∷ keys) zero ascends within before behind =
      count-none below (a ∷ keys) (λ x among. elim among [
        | inl here ↦ ap below (sym here) ∙ behind
        | inr later ↦ false_from_ne_true (below x) (λ is. absurd (true≢false (sym (lesser a x (pairs-behind_first (λ x y. order x y ≡ Less) a keys x ascends later) is) ∙ behind)))
      ])
  count-place (a ∷ keys) (suc p) ascends within before behind =
      let rest = count-place keys p (pairs-tail (λ x y. order x y ≡ Less) a keys ascends) (omega (arith, within)) (λ some. later p before some) behind in
      let here : cond {A = ℕ} (below a) 1 0 ≡ 1 = ap (λ b. cond {A = ℕ} b 1 0) (first p (omega (arith, within)) before) in
      omega (arith, rest, here, count-more below a keys)
    where
      -- the item behind the first
      moved : (n : ℕ) → (0 < suc (suc n) → IfSome (slice_get (a ∷ keys) (suc (suc n) - 1)) (λ x. below x ≡ true)) → IfSome (slice_get keys n) (λ x. below x ≡ true)
      moved n is =
          let same : suc (suc n) - 1 ≡ suc n = omega arith in
          subst (λ (k : ℕ). IfSome (slice_get (a ∷ keys) k) (λ x. below x ≡ true)) same (is (omega arith))

      later : (n : ℕ) → (0 < suc n → IfSome (slice_get (a ∷ keys) (suc n - 1)) (λ x. below x ≡ true)) → 0 < n → IfSome (slice_get keys (n - 1)) (λ x. below x ≡ true)
      later zero is some = absurd (omega (arith, some))
      later (suc n) is some =
          let same : n ≡ suc n - 1 = omega arith in
          subst (λ (k : ℕ). IfSome (slice_get keys k) (λ x. below x ≡ true)) same (moved n is)

      first : (n : ℕ) → n ≤ length keys → (0 < suc n → IfSome (slice_get (a ∷ keys) (suc n - 1)) (λ x. below x ≡ true)) → below a ≡ true
      first zero short is =
          let same : suc zero - 1 ≡ zero = omega arith in
          subst (λ (k : ℕ). IfSome (slice_get (a ∷ keys) k) (λ x. below x ≡ true)) same (is (omega arith))
      first (suc n) short is =
          let one = picked (λ x. below x ≡ true) keys n (omega (arith, short)) (moved n is) in
          lesser a one.item (pairs-behind_first (λ x y. order x y ≡ Less) a keys one.item ascends one.among) one.holds
