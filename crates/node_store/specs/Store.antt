-- Stores of nodes as contracts see them.
use Rattle.std.specs.Prelude.{◌≡◌, ◌≢◌, ℕ, List, Option, Some, None, is_some, IsSome, count_by, slice_index_or, slice_set}

-- a store of nodes as contracts see it: for each name from 0 on its node or None, and for how many more nodes there is
-- room
pub record Store (T : Type 0) : Type 0 where
  pub slots : List (Option T)
  pub rooms : ℕ

module _ {T : Type 0} where
  -- the node of that name, or None
  abbrev pub node_at : Store T → ℕ → Option T
  node_at store name = slice_index_or store.slots name None

  -- there is a node of that name
  abbrev pub IsLive : Store T → ℕ → Type 0
  IsLive store name = IsSome (node_at store name)

  -- the number of names that have a node
  abbrev pub live : Store T → ℕ
  live store = count_by is_some store.slots

  -- the store after a node was put in place of that of a name
  abbrev pub with_node : Store T → ℕ → T → Store T
  with_node store name node = record store { slots = slice_set store.slots name (Some node) }

  -- each name has the node that it had, or none as before
  abbrev pub SameNodes : Store T → Store T → Type 0
  SameNodes old new = (name : ℕ) → node_at new name ≡ node_at old name

  -- a name has this node, or none, and all other names are as they were
  pub record Changes (old new : Store T) (name : ℕ) (node : Option T) : Type 0 where
    pub changed : node_at new name ≡ node
    pub others : (other : ℕ) → other ≢ name → node_at new other ≡ node_at old other
