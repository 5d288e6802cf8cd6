-- Items one after another, by the rules, the size and the value of one.
use Rattle.std.specs.Prelude.{◌≡◌, ℕ, zero, suc, ◌+◌, Bool, List, [], ◌∷◌, ◌++◌, length, drop}
use Rattle.octets.specs.declared.refused.Refused.{Refused}

-- the rules of so many items
abbrev pub items_rules : (ℕ → List ℕ → List (Bool × Refused)) → (List ℕ → ℕ) → ℕ → ℕ → List ℕ
    → List (Bool × Refused)
items_rules rules size zero base octets = []
items_rules rules size (suc count) base octets =
    rules base octets
    ++ items_rules rules size count (base + size octets) (drop (size octets) octets)

-- the octets that so many items take
abbrev pub items_size : (List ℕ → ℕ) → ℕ → List ℕ → ℕ
items_size size zero octets = 0
items_size size (suc count) octets = size octets + items_size size count (drop (size octets) octets)

-- each item is the one at its place
abbrev pub EachAt : {T : Type 0} → (List ℕ → T → Type 0) → (List ℕ → ℕ) → List ℕ → List T → Type 0
EachAt Is size octets [] = Unit {0}
EachAt Is size octets (item ∷ items) =
    Is octets item × EachAt Is size (drop (size octets) octets) items

-- so many items, each the one at its place
pub record AreItems {T : Type 0} (Is : List ℕ → T → Type 0) (size : List ℕ → ℕ)
    (count : ℕ) (octets : List ℕ) (items : List T) : Type 0 where
  pub number : length items ≡ count
  pub each : EachAt Is size octets items

-- the octets begin with these items, which together have so many octets
abbrev pub SpellItems : {T : Type 0} → (List ℕ → T → ℕ → Type 0) → List ℕ → List T → ℕ → Type 0
SpellItems Spells octets [] whole = whole ≡ 0
SpellItems Spells octets (item ∷ items) whole =
    (size : ℕ) × (others : ℕ) × Spells octets item size
    × SpellItems Spells (drop size octets) items others × (whole ≡ size + others)
