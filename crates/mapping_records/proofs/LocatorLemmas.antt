-- Locators, one after another.
use Rattle.std.proofs.Common.{◌≡◌, ◌≤◌, ◌<◌, ℕ, suc, ◌+◌, ◌-◌, List, [], ◌∷◌, ◌++◌, length, drop, Some, None, sym, ap, ◌∙◌, append_assoc, arith}
use Rattle.std.proofs.lemmas.List.{drop-drop, length-append, length-drop}
use Rattle.octets.specs.Rules.{first_failing}
use Rattle.octets.specs.declared.refused.Refused.{Refused}
use Rattle.octets.proofs.RuleLemmas.{first_failing-append, first_failing-append_refused}
use Rattle.mapping_records.specs.Locator.{locator_at, locator_rules, locator_size, locators_at, locators_rules, locators_size}
use Rattle.mapping_records.specs.declared.record.Locator.{Locator}

-- the first i of the locators were read, up to a place
pub record Before (count base : ℕ) (octets : List ℕ) (i at : ℕ) (locators : List Locator) : Type 0 where
  pub rules : first_failing (locators_rules (count - i) (base + at) (drop at octets)) ≡ first_failing (locators_rules count base octets)
  pub values : locators ++ locators_at (count - i) (drop at octets) ≡ locators_at count octets
  pub sizes : at + locators_size (count - i) (drop at octets) ≡ locators_size count octets
  pub inside : at ≤ length octets
  pub number : length locators ≡ i

-- one more was read
pub goes_on : (count base : ℕ) (octets : List ℕ) (i at : ℕ) (locators : List Locator) → i < count → Before count base octets i at locators
    → first_failing (locator_rules (base + at) (drop at octets)) ≡ None → locator_size (drop at octets) ≤ length (drop at octets)
    → Before count base octets (i + 1) (at + locator_size (drop at octets)) (locators ++ locator_at (drop at octets) ∷ [])
goes_on count base octets i at locators more before none fits =
    let k = count - (i + 1) in
    let rest = drop at octets in
    let size = locator_size rest in
    let next : count - i ≡ suc k = omega arith in
    let place : base + at + size ≡ base + (at + size) = omega arith in
    let moved : drop size rest ≡ drop (at + size) octets = drop-drop size at octets in
    let rules : first_failing (locators_rules (count - i) (base + at) rest) ≡ first_failing (locators_rules k (base + (at + size)) (drop (at + size) octets)) =
    ap (λ (n : ℕ). first_failing (locators_rules n (base + at) rest)) next
    ∙ first_failing-append (locator_rules (base + at) rest) (locators_rules k (base + at + size) (drop size rest)) none
    ∙ ap (λ (p : ℕ). first_failing (locators_rules k p (drop size rest))) place
    ∙ ap (λ (d : List ℕ). first_failing (locators_rules k (base + (at + size)) d)) moved in
    let values : locators_at (count - i) rest ≡ locator_at rest ∷ locators_at k (drop (at + size) octets) =
    ap (λ (n : ℕ). locators_at n rest) next ∙ ap (λ (d : List ℕ). locator_at rest ∷ locators_at k d) moved in
    let sizes : locators_size (count - i) rest ≡ size + locators_size k (drop (at + size) octets) =
    ap (λ (n : ℕ). locators_size n rest) next ∙ ap (λ (d : List ℕ). size + locators_size k d) moved in
    record {
      rules = sym rules ∙ before.rules;
      values = append_assoc locators (locator_at rest ∷ []) (locators_at k (drop (at + size) octets)) ∙ ap (λ (ls : List Locator). locators ++ ls) (sym values) ∙ before.values;
      sizes = omega (arith, sizes, before.sizes);
      inside = omega (arith, fits, length-drop at octets, before.inside);
      number = omega (arith, before.number, length-append locators (locator_at rest ∷ []));
    }

-- the next one is refused
pub is_refused : (count base : ℕ) (octets : List ℕ) (i at : ℕ) (locators : List Locator) (refused : Refused) → i < count → Before count base octets i at locators
    → first_failing (locator_rules (base + at) (drop at octets)) ≡ Some refused → first_failing (locators_rules count base octets) ≡ Some refused
is_refused count base octets i at locators refused more before some =
    let k = count - (i + 1) in
    let rest = drop at octets in
    let size = locator_size rest in
    let next : count - i ≡ suc k = omega arith in
    sym before.rules
    ∙ ap (λ (n : ℕ). first_failing (locators_rules n (base + at) rest)) next
    ∙ first_failing-append_refused (locator_rules (base + at) rest) (locators_rules k (base + at + size) (drop size rest)) refused some
