-- Where the item of a number stands, as numbers ascend.
use Rattle.std.proofs.Common.{◌≡◌, ℕ, zero, suc, ◌+◌, ◌-◌, ◌<◌, ◌≤◌, nat_lt, true, false, List, [], ◌∷◌, length, get_or, take, drop, All, Some, IfSome, slice_get, inl, inr, sym, ap, subst, arith, lt-ltb, ltb-true, ltb-false, ◌∙◌}
use Rattle.std.proofs.lemmas.Bool.{cases_eq, le-ltb}
use Rattle.std.proofs.lemmas.List.{get_or-drop, get_or-take, length-drop, length-take-le}
use Rattle.std.proofs.lemmas.Option.{get_or_from_slice_get, slice_get-get_or, slice_get_within}
use Rattle.keyed_list.specs.Keyed.{Ascends, IsPlace}
use Rattle.keyed_list.specs.declared.keyed.Numbered.{Numbered}
use Rattle.keyed_list.proofs.AmongLemmas.{Among, pairs-behind_first, pairs-tail}

module _ {T : Type 0} (number : ℕ) where
  module _ (items : List (Numbered T)) (p : ℕ) (ascends : Ascends items) (within : p ≤ length items) where
    all-before : (0 < p → IfSome (slice_get items (p - 1)) (λ x. nat_lt x.number number ≡ true)) → All (λ x. x.number < number) (take p items)
    all-before before k d inside =
        let short : k < p = omega (arith, length-take-le p items within, inside) in
        let last : nat_lt (get_or items (p - 1) d).number number ≡ true = subst (λ o. IfSome o (λ (x : Numbered T). nat_lt x.number number ≡ true)) (slice_get-get_or items (p - 1) d (omega (arith, short, within))) (before (omega (arith, short))) in
        let less : (get_or items (p - 1) d).number < number = ltb-true _ _ last in
        subst (λ (x : Numbered T). x.number < number) (sym (get_or-take p items k d short))
        (elim (cases_eq k (p - 1)) [
          | inl same ↦ subst (λ (i : ℕ). (get_or items i d).number < number) (sym same) less
          | inr apart ↦ let lower : (get_or items k d).number < (get_or items (p - 1) d).number = ascends k (p - 1) d (omega (arith, apart, short)) (omega (arith, short, within)) in omega (arith, less, lower)
        ])

    all-behind : IfSome (slice_get items p) (λ x. nat_lt x.number number ≡ false) → All (λ x. number ≤ x.number) (drop p items)
    all-behind behind k d inside =
        let far : p + k < length items = omega (arith, length-drop p items, inside) in
        let first : nat_lt (get_or items p d).number number ≡ false = subst (λ o. IfSome o (λ (x : Numbered T). nat_lt x.number number ≡ false)) (slice_get-get_or items p d (omega (arith, far))) behind in
        let least : number ≤ (get_or items p d).number = ltb-false _ _ first in
        subst (λ (x : Numbered T). number ≤ x.number) (sym (get_or-drop p items k d))
        (elim (cases_eq k 0) [
          | inl same ↦ subst (λ (i : ℕ). number ≤ (get_or items i d).number) (omega (arith, same)) least
          | inr apart ↦ let lower : (get_or items p d).number < (get_or items (p + k) d).number = ascends p (p + k) d (omega (arith, apart)) far in omega (arith, least, lower)
        ])

    -- the item before the place and that at it tell of all
    pub is_place : (0 < p → IfSome (slice_get items (p - 1)) (λ x. nat_lt x.number number ≡ true)) → IfSome (slice_get items p) (λ x. nat_lt x.number number ≡ false) → IsPlace number items p
    is_place before behind = record { within = within; before = all-before before; behind = all-behind behind }

  -- the item at the place has the number
  pub place-of : (items : List (Numbered T)) (p : ℕ) (x : Numbered T) → Ascends items → slice_get items p ≡ Some x → x.number ≡ number → IsPlace number items p
  place-of items p x ascends at is =
      let inside : p < length items = slice_get_within items p x at in
      is_place items p ascends (omega (arith, inside))
      (λ some.
      let lower : (get_or items (p - 1) x).number < (get_or items p x).number = ascends (p - 1) p x (omega (arith, some)) inside in
      let same : (get_or items p x).number ≡ number = ap (λ (y : Numbered T). y.number) (get_or_from_slice_get items p x x at) ∙ is in
      subst (λ o. IfSome o (λ (y : Numbered T). nat_lt y.number number ≡ true)) (sym (slice_get-get_or items (p - 1) x (omega (arith, inside)))) (lt-ltb _ _ (omega (arith, lower, same))))
      (subst (λ o. IfSome o (λ (y : Numbered T). nat_lt y.number number ≡ false)) (sym at) (le-ltb _ _ (omega (arith, is))))

  -- the item of the number stands at its place
  pub at-place : (items : List (Numbered T)) (p : ℕ) (x : Numbered T) → Ascends items → IsPlace number items p → Among x items → x.number ≡ number → slice_get items p ≡ Some x
  at-place [] p x ascends place among is = absurd among
  at-place (y ∷ items) zero x ascends place among is = elim among [
    | inl here ↦ ap (λ (z : Numbered T). Some z) here
    | inr later ↦
        let lower : y.number < x.number = pairs-behind_first (λ a b. a.number < b.number) y items x ascends later in
        let least : number ≤ y.number = place.behind 0 y (omega arith) in
        absurd (omega (arith, lower, least, is))
  ]
  at-place (y ∷ items) (suc n) x ascends place among is = elim among [
    | inl here ↦
        let low : y.number < number = place.before 0 y (omega arith) in
        absurd (omega (arith, low, is, ap (λ (z : Numbered T). z.number) here))
    | inr later ↦
        at-place items n x (pairs-tail (λ a b. a.number < b.number) y items ascends) (record {
          within = omega (arith, place.within);
          before = λ k d inside. place.before (suc k) d (omega (arith, inside));
          behind = place.behind;
        }) later is
  ]
