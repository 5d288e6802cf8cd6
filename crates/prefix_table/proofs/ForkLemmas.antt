-- A node with the tree on one side of it and the tree on the other.
use Rattle.std.proofs.Common.{◌≡◌, ℕ, ◌+◌, ◌<◌, Bool, true, false, not, List, [], ◌++◌, Option, Some, None, inl, inr, subst, refl, sym, ap, ◌∙◌, arith}
use Rattle.std.proofs.lemmas.List.{append-nil}
use Rattle.std.proofs.lemmas.Option.{same_Some}
use Rattle.mapping_records.specs.declared.eid.Eid.{Eid}
use Rattle.node_store.specs.Store.{Store, node_at}
use Rattle.prefix_table.specs.declared.node.Node.{Node}
use Rattle.prefix_table.specs.declared.node.Sides.{Sides}
use Rattle.prefix_table.specs.Keys.{key_width, key_len}
use Rattle.prefix_table.specs.Sides.{bit_of, sides, on_side}
use Rattle.prefix_table.specs.Tree.{Tree, pair_of, pairs, size, Fits, IsTrie, Branches, side_bits}
use Rattle.prefix_table.specs.Tree.Tree.{none, node}
use Rattle.prefix_table.specs.Spelled.{name_of, Spells}
use Rattle.prefix_table.specs.Edited.{Uses, IsTrieAt}

pub bit_small : (side : Bool) → bit_of side < 2
bit_small false = omega arith
bit_small true = omega arith

-- the bits of one side aren't those of the other
pub sides_differ : (key : Eid) (side : Bool) → side_bits key (bit_of side) ≡ side_bits key (bit_of (not side)) → ⊥
sides_differ key false same = absurd (omega (arith, same))
sides_differ key true same = absurd (omega (arith, same))

module _ {T : Type 0} where
  -- both sides are what is on each
  pub both_sides : (side : Bool) (both : Sides T) → sides side (on_side side both) (on_side (not side) both) ≡ both
  both_sides false both = refl
  both_sides true both = refl

  -- a fact of what is on each side
  pub on_each : (P : T → Type 0) (side other : Bool) (near far : T) (both : Sides T) → both ≡ sides side near far → P near → P far → P (on_side other both)
  on_each P side other near far both is in_near in_far =
      subst (λ (s : Sides T). P (on_side other s)) (sym is) (by_sides side other)
    where
      by_sides : (side other : Bool) → P (on_side other (sides side near far))
      by_sides false false = in_near
      by_sides false true = in_far
      by_sides true false = in_far
      by_sides true true = in_near

-- what a node has, what is on one side of it and what is on the other, in their order
abbrev pub spread : {X : Type 0} → Bool → List X → List X → List X → List X
spread false own near far = own ++ (near ++ far)
spread true own near far = own ++ (far ++ near)

pub spread-empty : {X : Type 0} (side : Bool) (own near far : List X) → near ≡ [] → spread side own near far ≡ own ++ far
spread-empty false own near far is = ap (λ l. own ++ (l ++ far)) is
spread-empty true own near far is = ap (λ l. own ++ (far ++ l)) is ∙ ap (λ l. own ++ l) (append-nil far)

-- the branches of a node, seen from the other side
swapped : {V : Type 0} (value : Option V) (near far : Tree V) → Branches value near far → Branches value far near
swapped None near far b = (b.1, b.0)
swapped (Some v) near far b = tt

module _ {V : Type 0} where
  -- a node with the tree on that side of it, and the tree on the other
  abbrev pub fork : Bool → ℕ → Eid → Option V → Tree V → Tree V → Tree V
  fork false name key value near far = node name key value near far
  fork true name key value near far = node name key value far near

  module _ (name : ℕ) (key : Eid) (value : Option V) (near far : Tree V) where
    pub name-fork : (side : Bool) → name_of (fork side name key value near far) ≡ Some name
    name-fork false = refl
    name-fork true = refl

    pub size-fork : (side : Bool) → size (fork side name key value near far) ≡ 1 + size near + size far
    size-fork false = omega arith
    size-fork true = omega arith

    pub pairs-fork : (side : Bool) → pairs (fork side name key value near far) ≡ spread side (pair_of key value) (pairs near) (pairs far)
    pairs-fork false = refl
    pairs-fork true = refl

    pub uses-own : (side : Bool) (n : ℕ) → n ≡ name → Uses n (fork side name key value near far)
    uses-own false n is = inl is
    uses-own true n is = inl is

    pub uses-near : (side : Bool) (n : ℕ) → Uses n near → Uses n (fork side name key value near far)
    uses-near false n used = inr (inl used)
    uses-near true n used = inr (inr used)

    pub spells-fork : (store : Store (Node V)) (side : Bool) → node_at store name ≡ Some (record { eid = key; value = value; next = sides side (name_of near) (name_of far) }) → Spells store near → Spells store far → Spells store (fork side name key value near far)
    spells-fork store false found in_near in_far = (found, in_near, in_far)
    spells-fork store true found in_near in_far = (found, in_far, in_near)

    pub trie-fork : (side : Bool) (iid width bits len : ℕ) → Fits iid width bits len key → IsTrie iid width (side_bits key (bit_of side)) (key_len key + 1) near → IsTrie iid width (side_bits key (bit_of (not side))) (key_len key + 1) far → Branches value near far → IsTrie iid width bits len (fork side name key value near far)
    trie-fork false iid width bits len fits in_near in_far b = (fits, in_near, in_far, b)
    trie-fork true iid width bits len fits in_near in_far b = (fits, in_far, in_near, swapped value near far b)

-- a node of the EID's instance and family, with the trie on that side of it, and the trie on the other
pub record Top {V : Type 0} (store : Store (Node V)) (at : ℕ) (top : Node V) (eid : Eid) (bits len : ℕ) (side : Bool) (near far : Tree V) : Type 0 where
  pub found : node_at store at ≡ Some top
  pub near_named : name_of near ≡ on_side side top.next
  pub far_named : name_of far ≡ on_side (not side) top.next
  pub near_spelled : Spells store near
  pub far_spelled : Spells store far
  pub fits : Fits eid.iid (key_width eid) bits len top.eid
  pub near_trie : IsTrie eid.iid (key_width eid) (side_bits top.eid (bit_of side)) (key_len top.eid + 1) near
  pub far_trie : IsTrie eid.iid (key_width eid) (side_bits top.eid (bit_of (not side))) (key_len top.eid + 1) far
  pub branches : Branches top.value near far

-- the trie under a name whose node is known
pub record Known {V : Type 0} (store : Store (Node V)) (at : ℕ) (top : Node V) (eid : Eid) (bits len : ℕ) (side : Bool) (tree : Tree V) : Type 0 where
  pub near : Tree V
  pub far : Tree V
  pub is : tree ≡ fork side at top.eid top.value near far
  pub here : Top store at top eid bits len side near far

module _ {V : Type 0} where
  -- a node's sides have the names of the tries there
  pub named_sides : (store : Store (Node V)) (at : ℕ) (top : Node V) (eid : Eid) (bits len : ℕ) (side : Bool) (near far : Tree V) → Top store at top eid bits len side near far → sides side (name_of near) (name_of far) ≡ top.next
  named_sides store at top eid bits len side near far t = rw (t.near_named, t.far_named) (both_sides side top.next)

  pub Spells-top : (store : Store (Node V)) (at : ℕ) (top : Node V) (eid : Eid) (bits len : ℕ) (side : Bool) (near far : Tree V) → Top store at top eid bits len side near far → Spells store (fork side at top.eid top.value near far)
  Spells-top store at top eid bits len side near far t =
      let names = named_sides store at top eid bits len side near far t in
      spells-fork at top.eid top.value near far store side (t.found ∙ ap (λ (n : Sides (Option ℕ)). Some (record top { next = n })) (sym names)) t.near_spelled t.far_spelled

  pub IsTrie-top : (store : Store (Node V)) (at : ℕ) (top : Node V) (eid : Eid) (bits len : ℕ) (side : Bool) (near far : Tree V) → Top store at top eid bits len side near far → IsTrie eid.iid (key_width eid) bits len (fork side at top.eid top.value near far)
  IsTrie-top store at top eid bits len side near far t =
      trie-fork at top.eid top.value near far side eid.iid (key_width eid) bits len t.fits t.near_trie t.far_trie t.branches

  abbrev made : Eid → Option V → Tree V → Tree V → Node V
  made key value low high = record { eid = key; value = value; next = record { zero = name_of low; one = name_of high } }

  pub known_at : (store : Store (Node V)) (where_ : Option ℕ) (at : ℕ) (top : Node V) (eid : Eid) (bits len : ℕ) (side : Bool) (tree : Tree V) → IsTrieAt store where_ eid bits len tree → where_ ≡ Some at → node_at store at ≡ Some top → Known store at top eid bits len side tree
  known_at store where_ at top eid bits len side tree i is found = by_tree tree (i.named ∙ is) i.spelled i.trie
    where
      by_side : (side : Bool) (key : Eid) (value : Option V) (low high : Tree V) → node_at store at ≡ Some (made key value low high) → Spells store (node at key value low high) → IsTrie eid.iid (key_width eid) bits len (node at key value low high) → Known store at (made key value low high) eid bits len side (node at key value low high)
      by_side false key value low high here spelled trie = record {
        near = low;
        far = high;
        is = refl;
        here = record { found = here; near_named = refl; far_named = refl; near_spelled = spelled.1; far_spelled = spelled.2; fits = trie.0; near_trie = trie.1; far_trie = trie.2; branches = trie.3 };
      }
      by_side true key value low high here spelled trie = record {
        near = high;
        far = low;
        is = refl;
        here = record { found = here; near_named = refl; far_named = refl; near_spelled = spelled.2; far_spelled = spelled.1; fits = trie.0; near_trie = trie.2; far_trie = trie.1; branches = swapped value low high trie.3 };
      }

      by_tree : (tree : Tree V) → name_of tree ≡ Some at → Spells store tree → IsTrie eid.iid (key_width eid) bits len tree → Known store at top eid bits len side tree
      by_tree none named spelled trie = absurd (cc (named))
      by_tree (node name key value low high) named spelled trie =
          let here : name ≡ at = same_Some name at named in
          let there : node_at store at ≡ Some (made key value low high) = ap (node_at store) (sym here) ∙ spelled.0 in
          let same : made key value low high ≡ top = same_Some (made key value low high) top (sym there ∙ found) in
          let known = by_side side key value low high there (there, spelled.1, spelled.2) trie in
          subst (λ (t : Node V). Known store at t eid bits len side (node name key value low high)) same (
          subst (λ (n : ℕ). Known store at (made key value low high) eid bits len side (node n key value low high)) (sym here) known
          )
