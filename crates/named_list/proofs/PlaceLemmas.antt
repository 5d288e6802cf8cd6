-- A place found by halving.
use Rattle.std.proofs.Common.{◌≡◌, ℕ, ◌+◌, ◌-◌, ◌<◌, ◌≤◌, ◌/◌, Bool, true, false, List, length, slice_get, Option, Some, IfSome, sym, ap, ◌∙◌, arith, subst}
use Rattle.std.proofs.lemmas.Option.{slice_get_past, MatchOption-from_none}

-- the item before low is below, if there is one, and the one at high isn't
pub record Halving {T : Type 0} (answers : T → Bool → Type 0) (items : List T) (low high : ℕ) : Type 0 where
  pub order : low ≤ high
  pub within : high ≤ length items
  pub before : 0 < low → IfSome (slice_get items (low - 1)) (λ item. answers item true)
  pub behind : IfSome (slice_get items high) (λ item. answers item false)

pub middle_within : (low high : ℕ) → low < high → (low ≤ low + (high - low) / 2) × (low + (high - low) / 2 < high)
middle_within low high less = (omega (arith, less), omega (arith, less))

module _ {T : Type 0} (answers : T → Bool → Type 0) (items : List T) where
  if_answered : (found : Option T) (item : T) (answer told : Bool) → found ≡ Some item → answers item answer → answer ≡ told → IfSome found (λ x. answers x told)
  if_answered found item answer told is answered told_is =
      subst (λ (o : Option T). IfSome o (λ x. answers x told)) (sym is) (subst (answers item) told_is answered)

  pub halving_start : (n : ℕ) → n ≡ length items → Halving answers items 0 n
  halving_start n all = record {
    order = omega arith;
    within = omega (arith, all);
    before = λ more. absurd (omega (arith, more));
    behind = MatchOption-from_none (slice_get items n) (λ item. answers item false) (slice_get_past items n (omega (arith, all)));
  }

  module _ (low high : ℕ) (item : T) (answer : Bool) (is : Halving answers items low high) (less : low < high) (found : slice_get items (low + (high - low) / 2) ≡ Some item) (answered : answers item answer) where
    pub halving_low : answer ≡ true → Halving answers items (low + (high - low) / 2 + 1) high
    halving_low true_is =
        let middle : ℕ = low + (high - low) / 2 in
        let back : middle + 1 - 1 ≡ middle = omega arith in
        record {
          order = omega (arith, (middle_within low high less).1);
          within = is.within;
          before = λ more. if_answered (slice_get items (middle + 1 - 1)) item answer true (ap (slice_get items) back ∙ found) answered true_is;
          behind = is.behind;
        }

    pub halving_high : answer ≡ false → Halving answers items low (low + (high - low) / 2)
    halving_high false_is = record {
      order = (middle_within low high less).0;
      within = omega (arith, (middle_within low high less).1, is.within);
      before = is.before;
      behind = if_answered (slice_get items (low + (high - low) / 2)) item answer false found answered false_is;
    }
