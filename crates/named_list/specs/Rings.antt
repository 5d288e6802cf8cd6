-- The order of names, in rings. No public clause cites this file.
use Rattle.std.specs.Prelude.{ℕ, ◌+◌, ◌*◌, ◌/◌, ◌≤◌, List, [], ◌∷◌, ◌++◌, All, length, take, drop}
use Rattle.named_list.specs.Limits.{ring_names, spare_names}

-- names in order as contracts see them: the names, and for how many there is place
pub record Order : Type 0 where
  pub names : List ℕ
  pub places : ℕ

-- the names of a ring in order, the one at its head first
abbrev pub rolled : ℕ → List ℕ → List ℕ
rolled head ring = drop head ring ++ take head ring

-- the names of rings of that size, one ring for each head, and behind them the names that lie behind the rings
abbrev pub joined : ℕ → List ℕ → List ℕ → List ℕ
joined size [] slots = slots
joined size (head ∷ heads) slots = rolled head (take size slots) ++ joined size heads (drop size slots)

-- no head is past the end of its ring
abbrev pub AreHeads : List ℕ → Type 0
AreHeads heads = All (λ head. head ≤ ring_names) heads

-- names are laid out soundly: the rings are full, at most so many names lie behind them that one more ring can be
-- closed, and there is place for the heads of all rings that there may be
pub record IsOrder (heads slots : List ℕ) (places heads_places : ℕ) : Type 0 where
  pub each : AreHeads heads
  pub full : length heads * ring_names ≤ length slots
  pub last : length slots ≤ length heads * ring_names + (ring_names + spare_names)
  pub room : places / ring_names ≤ heads_places
