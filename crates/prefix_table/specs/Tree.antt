-- A path-compressed binary trie of one instance and family, as a tree of named nodes.
use Rattle.std.specs.Prelude.{◌≡◌, ℕ, ◌+◌, ◌*◌, ◌≤◌, List, [], ◌∷◌, ◌++◌, Option, Some, None}
use Rattle.mapping_records.specs.declared.eid.Eid.{Eid}
use Rattle.prefix_table.specs.Keys.{key_width, key_len, key_bits}

-- a tree: no node, or a node with its name, its EID, its value if it has one, and the trees below it on the sides of
-- the next bits 0 and 1
pub data Tree (V : Type 0) : Type 0 where
  none : Tree V
  node : (name : ℕ) (key : Eid) (value : Option V) (zero one : Tree V) → Tree V

-- the pair of an EID and its value, if it has one
abbrev pub pair_of : {V : Type 0} → Eid → Option V → List (Eid × V)
pair_of key None = []
pair_of key (Some value) = (key, value) ∷ []

-- the pairs of a tree, in ascending order: that of the node, then those with the next bit 0, then 1
abbrev pub pairs : {V : Type 0} → Tree V → List (Eid × V)
pairs none = []
pairs (node name key value zero one) = pair_of key value ++ (pairs zero ++ pairs one)

-- a key of that instance and family, at least so long, which begins with those bits
pub record Fits (iid width bits len : ℕ) (key : Eid) : Type 0 where
  pub same_iid : key.iid ≡ iid
  pub same_width : key_width key ≡ width
  pub longer : len ≤ key_len key
  pub front : key_bits key len ≡ bits

-- the bits of a key and one bit more, as a number
abbrev pub side_bits : Eid → ℕ → ℕ
side_bits key side = 2 * key_bits key (key_len key) + side

-- the tree has a node
abbrev pub IsSomething : {V : Type 0} → Tree V → Type 0
IsSomething none = ⊥
IsSomething (node name key value zero one) = Unit {0}

-- a node without a value has nodes below it on both sides
abbrev pub Branches : {V : Type 0} → Option V → Tree V → Tree V → Type 0
Branches None zero one = IsSomething zero × IsSomething one
Branches (Some value) zero one = Unit {0}

-- the number of nodes of a tree
abbrev pub size : {V : Type 0} → Tree V → ℕ
size none = 0
size (node name key value zero one) = 1 + size zero + size one

-- the tree is a trie of the instance and family, whose keys begin with those bits: each key below a node begins with
-- the node's bits and then the side's bit, and a node without a value has nodes below it on both sides
abbrev pub IsTrie : {V : Type 0} (iid width bits len : ℕ) → Tree V → Type 0
IsTrie iid width bits len none = Unit {0}
IsTrie iid width bits len (node name key value zero one) =
    Fits iid width bits len key
    × IsTrie iid width (side_bits key 0) (key_len key + 1) zero
    × IsTrie iid width (side_bits key 1) (key_len key + 1) one
    × Branches value zero one
