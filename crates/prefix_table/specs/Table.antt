-- Tables as contracts see them: their pairs, and for how many more there is room.
use Rattle.std.specs.Prelude.{◌≡◌, ℕ, ◌+◌, ◌*◌, ◌/◌, ◌%◌, ◌≤◌, List, [], ◌∷◌, ◌++◌, length, All, Some}
use Rattle.mapping_records.specs.declared.eid.Eid.{Eid}
use Rattle.node_store.specs.Store.{Store}
use Rattle.prefix_table.specs.declared.node.Node.{Node}
use Rattle.prefix_table.specs.declared.node.Root.{Root}
use Rattle.prefix_table.specs.Limits.{most_pairs}
use Rattle.prefix_table.specs.Roots.{Rises}
use Rattle.prefix_table.specs.Keys.{key_width}
use Rattle.prefix_table.specs.Tree.{pairs, size}
use Rattle.prefix_table.specs.Spelled.{tree_of, IsRoot}

-- a table as contracts see it: its pairs in ascending order of their EIDs, for how many more there is room, and how
-- many items its vectors have in all
pub record Table (V : Type 0) : Type 0 where
  pub pairs : List (Eid × V)
  pub spare : ℕ
  pub kept : ℕ

-- how many items a table's vectors have: roots, slots for nodes, contents beside them and names of free slots
abbrev pub kept_in : {V : Type 0} → Store (Node V) → List Root → ℕ
kept_in store roots = length roots + (2 * length store.slots + store.rooms)

-- the number by which roots are in order: the instance, then the width of the family's addresses
abbrev pub root_key : Eid → ℕ
root_key eid = eid.iid * 256 + key_width eid

-- the pairs under all roots
abbrev pub pairs_under : {V : Type 0} → Store (Node V) → List Root → List (Eid × V)
pairs_under store [] = []
pairs_under store (root ∷ roots) = pairs (tree_of store (Some root.name)) ++ pairs_under store roots

-- the table, as contracts see it, of a store with its roots
abbrev pub table_of : {V : Type 0} → Store (Node V) → List Root → ℕ → Table V
table_of store roots spare = record { pairs = pairs_under store roots; spare = spare; kept = kept_in store roots }

-- the number of nodes under all roots
abbrev pub size_under : {V : Type 0} → Store (Node V) → List Root → ℕ
size_under store [] = 0
size_under store (root ∷ roots) = size (tree_of store (Some root.name)) + size_under store roots

-- under a root is a trie of the root's instance and family
abbrev pub IsRootIn : {V : Type 0} → Store (Node V) → Root → Type 0
IsRootIn store root = IsRoot store (Some root.name) (root.key / 256) (root.key % 256)

-- roots are in order, and under each is its trie
pub record IsForest {V : Type 0} (store : Store (Node V)) (roots : List Root) : Type 0 where
  pub each : All (IsRootIn store) roots
  pub rise : Rises roots

-- the fields are those of a table: roots with their tries, the number of pairs, and for each pair and each further one
-- slots for two nodes, and place for a root
pub record IsTable {V : Type 0} (store : Store (Node V)) (roots : List Root) (spare len capacity : ℕ) : Type 0 where
  pub forest : IsForest store roots
  pub counted : len ≡ length (pairs_under store roots)
  pub slots : length store.slots ≡ 2 * (len + spare)
  pub rooms : store.rooms + size_under store roots ≡ length store.slots
  pub enough : len + spare ≤ capacity
  pub small : len + spare ≤ most_pairs
