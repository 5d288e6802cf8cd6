-- Stacks of names, under which an iterator has its next pairs.
use Rattle.std.specs.Prelude.{◌≡◌, ℕ, ◌+◌, ◌≤◌, List, [], ◌∷◌, ◌++◌, Option, Some, None}
use Rattle.mapping_records.specs.declared.eid.Eid.{Eid}
use Rattle.node_store.specs.Store.{Store}
use Rattle.prefix_table.specs.declared.node.Node.{Node}
use Rattle.prefix_table.specs.Keys.{key_len}
use Rattle.prefix_table.specs.Tree.{Tree, pairs}
use Rattle.prefix_table.specs.Tree.Tree.{none, node}
use Rattle.prefix_table.specs.Spelled.{name_of, tree_of, Spells}

-- the list of a name, if there is one
abbrev pub given : Option ℕ → List ℕ
given None = []
given (Some name) = name ∷ []

-- the pairs under names, those under the last name first
abbrev pub stacked : {V : Type 0} → Store (Node V) → List ℕ → List (Eid × V)
stacked store [] = []
stacked store (name ∷ names) = stacked store names ++ pairs (tree_of store (Some name))

-- no key of a tree is shorter than that, and each is longer than those above it
abbrev pub IsLong : {V : Type 0} → ℕ → Tree V → Type 0
IsLong least none = Unit {0}
IsLong least (node name key value zero one) =
    (least ≤ key_len key) × IsLong (key_len key + 1) zero × IsLong (key_len key + 1) one

-- under the name is a tree whose keys aren't shorter than `least`
pub record IsUnder {V : Type 0} (store : Store (Node V)) (least name : ℕ) : Type 0 where
  pub named : name_of (tree_of store (Some name)) ≡ Some name
  pub spelled : Spells store (tree_of store (Some name))
  pub long : IsLong least (tree_of store (Some name))

-- under each name is a tree whose keys are no shorter than that number and the number of names before it together
abbrev pub AreUnder : {V : Type 0} → Store (Node V) → ℕ → List ℕ → Type 0
AreUnder store least [] = Unit {0}
AreUnder store least (name ∷ names) = IsUnder store least name × AreUnder store (least + 1) names
