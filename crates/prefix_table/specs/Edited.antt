-- Tries in a store, before and after a pair is put into one or taken out.
use Rattle.std.specs.Prelude.{◌≡◌, ◌⊎◌, ℕ, ◌+◌, ◌≤◌, List, length, Option, Some, None}
use Rattle.mapping_records.specs.declared.eid.Eid.{Eid}
use Rattle.node_store.specs.Store.{Store, node_at, Changes}
use Rattle.prefix_table.specs.declared.node.Node.{Node}
use Rattle.prefix_table.specs.Keys.{key_width}
use Rattle.prefix_table.specs.Tree.{Tree, pairs, size, Fits, IsTrie}
use Rattle.prefix_table.specs.Tree.Tree.{none, node}
use Rattle.prefix_table.specs.Pairs.{with_pair, without_pair, value_in}
use Rattle.prefix_table.specs.Spelled.{name_of, Spells}

-- the name is that of a node of the tree
abbrev pub Uses : {V : Type 0} → ℕ → Tree V → Type 0
Uses n none = ⊥
Uses n (node name key value low high) = (n ≡ name) ⊎ (Uses n low ⊎ Uses n high)

-- the node of that name is now another, which is made of the old one
abbrev pub Becomes : {V : Type 0} (old new : Store (Node V)) (at : ℕ) (made : Node V → Node V) → Type 0
Becomes {V} old new at made = (top : Node V) → node_at old at ≡ Some top → Changes old new at (Some (made top))

-- the tree is the trie under the name `at`: its keys are of the EID's instance and family, and begin with those bits
pub record IsTrieAt {V : Type 0} (store : Store (Node V)) (at : Option ℕ) (eid : Eid) (bits len : ℕ) (tree : Tree V) : Type 0 where
  pub named : name_of tree ≡ at
  pub spelled : Spells store tree
  pub trie : IsTrie eid.iid (key_width eid) bits len tree

-- under the name `at` is a trie that the EID fits
pub record Holds {V : Type 0} (store : Store (Node V)) (at : Option ℕ) (len : ℕ) (eid : Eid) : Type 0 where
  pub tree : Tree V
  pub bits : ℕ
  pub is : IsTrieAt store at eid bits len tree
  pub fits : Fits eid.iid (key_width eid) bits len eid

-- under the name `at` is a trie that the EID fits, and where the EID isn't in it, there is room for two nodes
pub record Takes {V : Type 0} (store : Store (Node V)) (at : Option ℕ) (len : ℕ) (eid : Eid) : Type 0 where
  pub holds : Holds store at len eid
  pub room : value_in eid (pairs holds.tree) ≡ None → 2 ≤ store.rooms

-- the pairs of a trie, `before`, changed at an EID: the trie that is there now, its name `at`, and the EID's value
-- before (`was`); other nodes are as they were
pub record Edited {V : Type 0} (old new : Store (Node V)) (change : List (Eid × V) → List (Eid × V)) (bits len : ℕ) (eid : Eid) (before : Tree V) (at : Option ℕ) (was : Option V) : Type 0 where
  pub tree : Tree V
  pub named : name_of tree ≡ at
  pub spelled : Spells new tree
  pub trie : IsTrie eid.iid (key_width eid) bits len tree
  pub list : pairs tree ≡ change (pairs before)
  pub found : was ≡ value_in eid (pairs before)
  pub kept : (n : ℕ) (top : Node V) → node_at old n ≡ Some top → (Uses n before → ⊥) → node_at new n ≡ Some top
  pub rooms : new.rooms + size tree ≡ old.rooms + size before
  pub slots : length new.slots ≡ length old.slots

-- whatever trie was under the name `at`, its pairs changed at the EID, and `later` is its name now
abbrev pub Edits : {V : Type 0} (old new : Store (Node V)) (change : List (Eid × V) → List (Eid × V)) (at : Option ℕ) (len : ℕ) (eid : Eid) (later : Option ℕ) (was : Option V) → Type 0
Edits {V} old new change at len eid later was =
    (tree : Tree V) (bits : ℕ) → IsTrieAt old at eid bits len tree → Fits eid.iid (key_width eid) bits len eid → Edited old new change bits len eid tree later was

-- the pair was put into the trie under the name `at`
abbrev pub Puts : {V : Type 0} (old new : Store (Node V)) (at : Option ℕ) (len : ℕ) (eid : Eid) (value : V) (name : ℕ) (was : Option V) → Type 0
Puts old new at len eid value name was = Edits old new (with_pair eid value) at len eid (Some name) was

-- the EID's pair was taken out of the trie under the name `at`
abbrev pub Shrinks : {V : Type 0} (old new : Store (Node V)) (at : Option ℕ) (len : ℕ) (eid : Eid) (later : Option ℕ) (was : Option V) → Type 0
Shrinks old new at len eid later was = Edits old new (without_pair eid) at len eid later was
