-- What lawful settings say of addresses, and what a search finds among attachments in order.
use Rattle.std.proofs.Common.{◌≡◌, ◌≢◌, ◌<◌, ◌≤◌, ◌^◌, ℕ, zero, suc, Bool, true, false, List, [], ◌∷◌, length, map, Option, Some, None, inl, inr, HoldsAt, Err, Ordering, Less, Equal, cond, refl, sym, ap, subst, eq-eqb, ne_eqb, arith}
use Rattle.std.proofs.lemmas.Bool.{cases_lt}
use Rattle.std.proofs.lemmas.Bool.Decides.{nat_tests}
use Rattle.std.proofs.lemmas.Cmp.{ranked}
use Rattle.std.proofs.lemmas.List.Elements.{All-tail}
use Rattle.std.proofs.lemmas.List.Sorted.{IsNonDecreasingBy-from_default}
use Rattle.std.specs.Bool.{◌==◌}
use Rattle.std.specs.List.{All, AllByRecursion}
use Rattle.std.specs.List.Sorted.{IsBinarySearchResult, IsNonDecreasingBy, IsStrictlySortedBy}
use Rattle.std.specs.Ordering.{nat_cmp, ordering_index}
use Rattle.std.specs.Prelude.{slice_index_or}
use Rattle.lisp_settings.specs.Lawful.{IsLawfulAttachment}
use Rattle.lisp_settings.specs.declared.settings.Attachment.{Attachment}
use Rattle.router_model.specs.Site.{instance_of}

found_below : (test : Bool) (iid first : ℕ) (others : Option ℕ) → first < 2 ^ 24 → (others ≡ Some iid → iid < 2 ^ 24) → cond test (Some first) others ≡ Some iid → iid < 2 ^ 24
found_below true iid first others below rest is = let same : first ≡ iid = cc in subst (λ (n : ℕ). n < 2 ^ 24) same below
found_below false iid first others below rest is = rest is

-- an instance has 24 bits
pub instance_of-below : (attachments : List Attachment) (vlan iid : ℕ) → All IsLawfulAttachment attachments → instance_of attachments vlan ≡ Some iid → iid < 2 ^ 24
instance_of-below [] vlan iid lawful is = cc
instance_of-below (attachment ∷ others) vlan iid lawful is =
    found_below (attachment.vlan == vlan) iid attachment.iid (instance_of others vlan) (lawful 0 attachment (omega arith)).iid (instance_of-below others vlan iid (All-tail IsLawfulAttachment attachment others lawful)) is

abbrev nowhere : Attachment
nowhere = record { vlan = 0; iid = 0 }

abbrev vlan_at : List Attachment → ℕ → ℕ
vlan_at attachments i = let attachment = slice_index_or attachments i nowhere in attachment.vlan

-- each VLAN is below those after it
abbrev Ascends : List Attachment → Type 0
Ascends attachments = IsStrictlySortedBy nat_cmp (map (λ attachment. attachment.vlan) attachments)

vlan_at-above : (vlan : ℕ) (attachments : List Attachment) (i : ℕ) → AllByRecursion (λ other. nat_cmp vlan other ≡ Less) (map (λ attachment. attachment.vlan) attachments) → i < length attachments → vlan < vlan_at attachments i
vlan_at-above vlan [] i above within = absurd (omega (arith, within))
vlan_at-above vlan (attachment ∷ others) zero above within = ranked vlan attachment.vlan _ (sym above.0)
vlan_at-above vlan (attachment ∷ others) (suc i) above within = vlan_at-above vlan others i above.1 (omega (arith, within))

vlan_at-rises : (attachments : List Attachment) (i j : ℕ) → Ascends attachments → i < j → j < length attachments → vlan_at attachments i < vlan_at attachments j
unfolding IsStrictlySortedBy
vlan_at-rises [] i j ascends before within = absurd (omega (arith, within))
vlan_at-rises (attachment ∷ others) i zero ascends before within = absurd (omega (arith, before))
vlan_at-rises (attachment ∷ others) zero (suc j) ascends before within = vlan_at-above attachment.vlan others j ascends.0 (omega (arith, within))
vlan_at-rises (attachment ∷ others) (suc i) (suc j) ascends before within = vlan_at-rises others i j ascends.1 (omega (arith, before)) (omega (arith, within))

-- the attachment that has the VLAN is the first one, since no two have it
instance_of-at : (attachments : List Attachment) (i vlan : ℕ) → Ascends attachments → i < length attachments → vlan_at attachments i ≡ vlan → Some (slice_index_or attachments i nowhere).iid ≡ instance_of attachments vlan
unfolding IsStrictlySortedBy
instance_of-at [] i vlan ascends within is = absurd (omega (arith, within))
instance_of-at (attachment ∷ others) zero vlan ascends within is = rw (eq-eqb attachment.vlan vlan is) refl
instance_of-at (attachment ∷ others) (suc i) vlan ascends within is =
    let above : attachment.vlan < vlan_at others i = vlan_at-above attachment.vlan others i ascends.0 (omega (arith, within)) in
    rw (ne_eqb attachment.vlan vlan (λ same. omega (arith, above, is, same))) (instance_of-at others i vlan ascends.1 (omega (arith, within)) is)

-- no attachment has the VLAN
instance_of-none : (attachments : List Attachment) (vlan : ℕ) → ((i : ℕ) → i < length attachments → vlan_at attachments i ≢ vlan) → None ≡ instance_of attachments vlan
instance_of-none [] vlan others = refl
instance_of-none (attachment ∷ others) vlan none =
    rw (ne_eqb attachment.vlan vlan (none 0 (omega arith))) (instance_of-none others vlan (λ i within. none (suc i) (omega (arith, within))))

module _ (attachments : List Attachment) (ascends : Ascends attachments) (vlan : ℕ) where
  abbrev comparison : Attachment → Ordering
  comparison attachment = nat_cmp attachment.vlan vlan

  comparisons_rise : IsNonDecreasingBy (λ attachment. ordering_index (comparison attachment)) attachments
  comparisons_rise = IsNonDecreasingBy-from_default (λ attachment. ordering_index (comparison attachment)) attachments nowhere (λ i j le within.
      let rises : vlan_at attachments i ≤ vlan_at attachments j = grind (arith, λ (before : i < j). vlan_at-rises attachments i j ascends before within, λ (same : i ≡ j). ap (vlan_at attachments) same) in
      grind (arith, nat_tests))

  -- what a search by VLAN finds
  pub instance_of-found : (i : ℕ) → i < length attachments → HoldsAt (λ attachment. comparison attachment ≡ Equal) attachments i → Some (slice_index_or attachments i nowhere).iid ≡ instance_of attachments vlan
  instance_of-found i within equal = instance_of-at attachments i vlan ascends within (ranked _ vlan _ (sym (equal nowhere)))

  -- where it finds a gap
  pub instance_of-absent : (gap : ℕ) → IsBinarySearchResult comparison attachments (Err gap) → None ≡ instance_of attachments vlan
  instance_of-absent gap parted = instance_of-none attachments vlan (λ i within same.
      let parts = parted comparisons_rise in
      elim (cases_lt i gap) [
        | inl before ↦ omega (arith, same, ranked _ vlan _ (sym (parts.0 i nowhere (omega arith) before)))
        | inr after ↦ omega (arith, same, ranked _ vlan _ (sym (parts.1 i nowhere after within)))
      ])
