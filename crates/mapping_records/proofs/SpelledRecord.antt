-- Locators and records: what is spelled is read, what is read is spelled, and what is written is spelled.
use Rattle.std.proofs.Common.{◌≡◌, ℕ, zero, suc, ◌+◌, Bool, true, false, List, [], ◌∷◌, ◌++◌, length, drop, leb, None, refl, sym, ap, subst, ◌∙◌, arith}
use Rattle.std.proofs.lemmas.Bool.{le-leb, leb-true}
use Rattle.octets.specs.Rules.{first_failing}
use Rattle.octets.proofs.RuleLemmas.{all_hold, first_failing-append}
use Rattle.ip_headers.specs.declared.addr.Addr.{Addr}
use Rattle.ip_headers.specs.declared.addr.Addr.TheVariants.{V4, V6}
use Rattle.mapping_records.specs.Address.{octets_of, SpellsAddr}
use Rattle.mapping_records.specs.Locator.{locator_at, locator_rules, locator_size, locators_at, locators_rules, locators_size, octets_of_locators, SpellsLocator, SpellsLocators}
use Rattle.mapping_records.specs.declared.record.Locator.{Locator}
use Rattle.mapping_records.proofs.EidLemmas.{spells_addr}

-- a locator that obeys the rules, with its value and its octets
pub record ReadLocator (base : ℕ) (octets : List ℕ) (locator : Locator) : Type 0 where
  pub rules : first_failing (locator_rules base octets) ≡ None
  pub value : locator_at octets ≡ locator
  pub size : locator_size octets ≡ 8 + octets_of locator.addr

with_addr : (base : ℕ) (octets : List ℕ) (locator : Locator) (addr : Addr) → locator.addr ≡ addr → SpellsLocator octets locator → SpellsAddr octets 6 addr → ReadLocator base octets locator
with_addr base octets locator (V4 n) is s address =
    let whole = s.whole in
    let some : leb 8 (length octets) ≡ true = le-leb 8 (length octets) (omega (arith, whole)) in
    let long : leb 12 (length octets) ≡ true = le-leb 12 (length octets) (rw is at whole) in
    record {
      rules = rw (some, address.0, long) refl;
      value = rw (address.0, address.1, s.priority, s.weight, s.m_priority, s.m_weight, s.local, s.probed, s.reachable, sym is) refl;
      size = rw (address.0, is) refl;
    }
with_addr base octets locator (V6 n) is s address =
    let whole = s.whole in
    let some : leb 8 (length octets) ≡ true = le-leb 8 (length octets) (omega (arith, whole)) in
    let long : leb 24 (length octets) ≡ true = le-leb 24 (length octets) (rw is at whole) in
    record {
      rules = rw (some, address.0, long) refl;
      value = rw (address.0, address.1, s.priority, s.weight, s.m_priority, s.m_weight, s.local, s.probed, s.reachable, sym is) refl;
      size = rw (address.0, is) refl;
    }

-- what is spelled is read
pub spelled_locator : (base : ℕ) (octets : List ℕ) (locator : Locator) → SpellsLocator octets locator → ReadLocator base octets locator
spelled_locator base octets locator s = with_addr base octets locator locator.addr refl s s.address

-- locators that obey the rules, with their values and their octets
pub record ReadLocators (base : ℕ) (octets : List ℕ) (locators : List Locator) : Type 0 where
  pub rules : first_failing (locators_rules (length locators) base octets) ≡ None
  pub values : locators_at (length locators) octets ≡ locators
  pub sizes : locators_size (length locators) octets ≡ octets_of_locators locators

pub spelled_locators : (base : ℕ) (octets : List ℕ) (locators : List Locator) → SpellsLocators octets locators → ReadLocators base octets locators
spelled_locators base octets [] s = record { rules = refl; values = refl; sizes = refl }
spelled_locators base octets (locator ∷ locators) s =
    let first = spelled_locator base octets locator s.0 in
    let rest : List ℕ = drop (8 + octets_of locator.addr) octets in
    let count = length locators in
    let others = spelled_locators (base + locator_size octets) rest locators s.1 in
    let moved : drop (locator_size octets) octets ≡ rest = ap (λ (n : ℕ). drop n octets) first.size in
    record {
      rules = first_failing-append (locator_rules base octets) (locators_rules count (base + locator_size octets) (drop (locator_size octets) octets)) first.rules
          ∙ ap (λ (d : List ℕ). first_failing (locators_rules count (base + locator_size octets) d)) moved ∙ others.rules;
      values = ap (λ (d : List ℕ). locator_at octets ∷ locators_at count d) moved ∙ ap (λ (ls : List Locator). locator_at octets ∷ ls) others.values ∙ ap (λ (l : Locator). l ∷ locators) first.value;
      sizes = ap (λ (d : List ℕ). locator_size octets + locators_size count d) moved ∙ ap (λ (n : ℕ). locator_size octets + n) others.sizes ∙ ap (λ (n : ℕ). n + octets_of_locators locators) first.size;
    }

-- where two tables after one another pass, the first one passes
pub front_passes : {X : Type 0} (front back : List (Bool × X)) → first_failing (front ++ back) ≡ None → first_failing front ≡ None
front_passes [] back none = refl
front_passes ((true, answer) ∷ front) back none = front_passes front back none
front_passes ((false, answer) ∷ front) back none = cc

pub back_passes : {X : Type 0} (front back : List (Bool × X)) → first_failing (front ++ back) ≡ None → first_failing back ≡ None
back_passes front back none = sym (first_failing-append front back (front_passes front back none)) ∙ none

-- what is read is spelled
locator_is_spelled : (base : ℕ) (octets : List ℕ) → first_failing (locator_rules base octets) ≡ None
    → SpellsLocator octets (locator_at octets) × (8 + octets_of (locator_at octets).addr ≡ locator_size octets)
locator_is_spelled base octets none =
    let hold = all_hold (locator_rules base octets) none in
    let address = spells_addr octets 6 hold.1.0 in
    let size : 8 + octets_of (locator_at octets).addr ≡ locator_size octets = ap (λ (n : ℕ). 8 + n) address.1 in (
      record {
        whole = rw size (leb-true _ _ hold.1.1.0);
        priority = refl;
        weight = refl;
        m_priority = refl;
        m_weight = refl;
        local = refl;
        probed = refl;
        reachable = refl;
        address = address.0;
      },
      size,
    )

-- locators that were read, as they are spelled
pub record AreSpelled (count : ℕ) (octets : List ℕ) : Type 0 where
  pub spells : SpellsLocators octets (locators_at count octets)
  pub number : length (locators_at count octets) ≡ count
  pub sizes : octets_of_locators (locators_at count octets) ≡ locators_size count octets

pub locators_are_spelled : (count base : ℕ) (octets : List ℕ) → first_failing (locators_rules count base octets) ≡ None → AreSpelled count octets
locators_are_spelled zero base octets none = record { spells = tt; number = refl; sizes = refl }
locators_are_spelled (suc count) base octets none =
    let size = locator_size octets in
    let rest : List ℕ = drop size octets in
    let first = locator_is_spelled base octets (front_passes (locator_rules base octets) (locators_rules count (base + size) rest) none) in
    let others = locators_are_spelled count (base + size) rest (back_passes (locator_rules base octets) (locators_rules count (base + size) rest) none) in
    record {
      spells = (first.0, subst (λ (n : ℕ). SpellsLocators (drop n octets) (locators_at count rest)) (sym first.1) others.spells);
      number = omega (arith, others.number);
      sizes = omega (arith, first.1, others.sizes);
    }
