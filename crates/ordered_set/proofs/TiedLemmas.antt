-- A key in the place of one with which it ties.
use Rattle.std.proofs.Common.{◌≡◌, ℕ, ◌<◌, true, List, length, get_or, slice_get, slice_set, Ordering, Equal, inl, inr, sym, ap, ◌∙◌, arith, true≢false}
use Rattle.std.proofs.lemmas.Bool.{cases_eq}
use Rattle.std.proofs.lemmas.Cmp.{alike_right}
use Rattle.std.proofs.lemmas.List.{get_or-set_other, get_or-set_same, length-set}
use Rattle.std.proofs.lemmas.Option.{slice_get-get_or, slice_get_cases}
use Rattle.std.specs.Cmp.{IsTotalOrder, Equal-is}
use Rattle.ordered_set.specs.Keys.{Ascends, ties}

module _ {K : Type 0} (order : K → K → Ordering) (total : IsTotalOrder order) (key : K) (keys : List K) (p : ℕ) (tied : ties order key (slice_get keys p) ≡ true) where
  pub tied-within : p < length keys
  tied-within = elim (slice_get_cases keys p).1 [
    | inl there ↦ there.1
    | inr past ↦ absurd (true≢false (sym tied ∙ ap (ties order key) past.1))
  ]

  tied-is : (d : K) → order (get_or keys p d) key ≡ Equal
  tied-is d =
      (Equal-is (order (get_or keys p d) key)).0 (sym (ap (ties order key) (slice_get-get_or keys p d tied-within)) ∙ tied)

  left-set : (n : ℕ) (d other : K) → order (get_or (slice_set keys p key) n d) other ≡ order (get_or keys n d) other
  left-set n d other = elim (cases_eq n p) [
    | inl same ↦
        ap (λ (i : ℕ). order (get_or (slice_set keys p key) i d) other) same
        ∙ ap (λ (k : K). order k other) (get_or-set_same keys p key d tied-within)
        ∙ sym (total.congr (get_or keys p d) key other (tied-is d))
        ∙ ap (λ (i : ℕ). order (get_or keys i d) other) (sym same)
    | inr apart ↦ ap (λ (k : K). order k other) (get_or-set_other keys p n key d apart)
  ]

  right-set : (n : ℕ) (d other : K) → order other (get_or (slice_set keys p key) n d) ≡ order other (get_or keys n d)
  right-set n d other = elim (cases_eq n p) [
    | inl same ↦
        ap (λ (i : ℕ). order other (get_or (slice_set keys p key) i d)) same
        ∙ ap (order other) (get_or-set_same keys p key d tied-within)
        ∙ sym (alike_right total (get_or keys p d) key other (tied-is d))
        ∙ ap (λ (i : ℕ). order other (get_or keys i d)) (sym same)
    | inr apart ↦ ap (order other) (get_or-set_other keys p n key d apart)
  ]

  pub ascends-set : Ascends order keys → Ascends order (slice_set keys p key)
  ascends-set ascends i j d less within =
      left-set i d (get_or (slice_set keys p key) j d)
      ∙ right-set j d (get_or keys i d)
      ∙ ascends i j d less (omega (arith, within, length-set keys p key))
