-- Where a locator is put in order, and that the first ones are those of the first ones.
use Rattle.std.proofs.Common.{◌≡◌, ℕ, suc, ◌+◌, ◌||◌, not, Bool, true, false, cond, List, [], ◌∷◌, insert, slice_get, refl, sym, ap, ◌∙◌, arith}
use Rattle.std.specs.List.{position_or_len}
use Rattle.mapping_records.specs.Eids.{same_address}
use Rattle.locator_state.specs.Turns.{goes_before, is_at, with_target}
use Rattle.locator_state.specs.declared.target.Target.{Target}

-- the place of a locator
abbrev pub place_of : Target → List Target → ℕ
place_of target targets = position_or_len (λ next. same_address target.rloc next.rloc || goes_before target next) targets

next : (n : ℕ) → 1 + n ≡ suc n
next n = omega arith

-- one that isn't there is put in its place
pub put : (target : Target) (targets : List Target) → is_at target.rloc (slice_get targets (place_of target targets)) ≡ false → insert targets (place_of target targets) target ≡ with_target target targets
put target [] isn't = refl
put target (first ∷ others) isn't = by (same_address target.rloc first.rloc) (goes_before target first) refl isn't (put target others)
  where
    at : ℕ → Bool
    at n = is_at target.rloc (slice_get (first ∷ others) n)

    by : (b c : Bool) → same_address target.rloc first.rloc ≡ b → at (cond (not (b || c)) (1 + place_of target others) 0) ≡ false
        → (is_at target.rloc (slice_get others (place_of target others)) ≡ false → insert others (place_of target others) target ≡ with_target target others)
        → insert (first ∷ others) (cond (not (b || c)) (1 + place_of target others) 0) target ≡ cond b (first ∷ others) (cond c (target ∷ first ∷ others) (first ∷ with_target target others))
    by true c same isn't rest = absurd (let never : true ≡ false = sym same ∙ isn't in cc)
    by false true same isn't rest = refl
    by false false same isn't rest =
        ap (λ n. insert (first ∷ others) n target) (next (place_of target others))
        ∙ ap (λ (l : List Target). first ∷ l) (rest (sym (ap at (next (place_of target others))) ∙ isn't))

-- one that is there stays
pub there : (target : Target) (targets : List Target) → is_at target.rloc (slice_get targets (place_of target targets)) ≡ true → targets ≡ with_target target targets
there target [] is = absurd cc
there target (first ∷ others) is = by (same_address target.rloc first.rloc) (goes_before target first) refl is (there target others)
  where
    at : ℕ → Bool
    at n = is_at target.rloc (slice_get (first ∷ others) n)

    by : (b c : Bool) → same_address target.rloc first.rloc ≡ b → at (cond (not (b || c)) (1 + place_of target others) 0) ≡ true
        → (is_at target.rloc (slice_get others (place_of target others)) ≡ true → others ≡ with_target target others)
        → (first ∷ others) ≡ cond b (first ∷ others) (cond c (target ∷ first ∷ others) (first ∷ with_target target others))
    by true c same is rest = refl
    by false true same is rest = absurd (let never : false ≡ true = sym same ∙ is in cc)
    by false false same is rest = ap (λ (l : List Target). first ∷ l) (rest (sym (ap at (next (place_of target others))) ∙ is))
