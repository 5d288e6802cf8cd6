-- How a store lays out its nodes. No public clause cites this file.
use Rattle.std.specs.Prelude.{◌≡◌, ℕ, ◌+◌, ◌≤◌, ◌<◌, ◌^◌, ◌==◌, Bool, false, List, length, map, Option, is_some, is_none, count_by, slice_index_or, if◌then◌else◌}

-- whether there is a slot at that place, and it has no node
abbrev pub is_vacant : {T : Type 0} → List (Option T) → ℕ → Bool
is_vacant slots place = slice_index_or (map is_none slots) place false

-- how often a name is in a list
abbrev pub times : List ℕ → ℕ → ℕ
times names name = count_by (λ n. n == name) names

-- a store is laid out soundly: the free names are those of the vacant slots, each once, and there is room for the slots
-- and the free names of all names, used and fresh
pub record IsSound {T : Type 0} (slots : List (Option T)) (free : List ℕ) (fresh slots_capacity free_capacity : ℕ) : Type 0 where
  pub once : (name : ℕ) → times free name ≡ (if is_vacant slots name then 1 else 0)
  pub total : count_by is_some slots + length free ≡ length slots
  pub slots_room : length slots + fresh ≤ slots_capacity
  pub names_room : length slots + fresh ≤ free_capacity
  pub small : length slots + fresh < 2 ^ 32
