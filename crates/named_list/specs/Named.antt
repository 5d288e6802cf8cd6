-- Lists of items that have names.
use Rattle.std.specs.Prelude.{◌≡◌, ◌+◌, ◌/◌, ◌≤◌, ◌==◌, ℕ, List, [], ◌∷◌, length, All, Option, None, Some, count_by, if◌then◌else◌}
use Rattle.node_store.specs.Store.{Store, node_at, IsLive}
use Rattle.named_list.specs.Limits.{ring_names}

-- a list as contracts see it: its items in order, their names in the same order, for how many more items there is room,
-- how many items its vectors have in all, and for how many names there is place
pub record Named (T : Type 0) : Type 0 where
  pub items : List T
  pub names : List ℕ
  pub spare : ℕ
  pub kept : ℕ
  pub places : ℕ

-- the item of that name, or None
abbrev pub item_named : {T : Type 0} → List ℕ → List T → ℕ → Option T
item_named [] items name = None
item_named (first ∷ names) [] name = None
item_named (first ∷ names) (item ∷ items) name = if first == name then Some item else item_named names items name

-- ### how the list is laid out; no public clause cites what follows

-- a node, if there is one, and items behind it
abbrev pub before : {T : Type 0} → Option T → List T → List T
before None items = items
before (Some item) items = item ∷ items

-- the nodes of names, in order
abbrev pub items_at : {T : Type 0} → Store T → List ℕ → List T
items_at store [] = []
items_at store (name ∷ names) = before (node_at store name) (items_at store names)

-- how often a name is in a list
abbrev pub times : ℕ → List ℕ → ℕ
times name names = count_by (λ n. n == name) names

-- a list as contracts see it, by its store and its names in order, for `capacity` of which there is place. Each ring
-- has a head, and so has each that there is room for
abbrev pub named_of : {T : Type 0} → Store T → List ℕ → ℕ → Named T
named_of store names capacity = record {
  items = items_at store names;
  names = names;
  spare = store.rooms;
  kept = length store.slots + (store.rooms + (length names + (length names + store.rooms) / ring_names));
  places = capacity;
}

-- a list is laid out soundly: each name is that of a node, none stands twice, all slots but those for further nodes
-- have their name in the list, and for each further node there is place for a name
pub record IsNamedList {T : Type 0} (store : Store T) (names : List ℕ) (capacity : ℕ) : Type 0 where
  pub each : All (IsLive store) names
  pub once : (name : ℕ) → times name names ≤ 1
  pub all : length store.slots ≡ length names + store.rooms
  pub place : length names + store.rooms ≤ capacity
