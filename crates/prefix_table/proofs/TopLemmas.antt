-- Tries in a store, and the node at their top.
use Rattle.std.proofs.Common.{◌≡◌, ℕ, ◌+◌, ◌<◌, Bool, true, false, not, List, [], ◌∷◌, ◌++◌, All, Option, Some, None, inl, inr, refl, sym, ap, ◌∙◌, arith}
use Rattle.std.proofs.lemmas.Option.{same_Some}
use Rattle.std.proofs.lemmas.Bool.{false≢true}
use Rattle.std.proofs.lemmas.List.Elements.{All-nil, All-cons}
use Rattle.mapping_records.specs.declared.eid.Eid.{Eid}
use Rattle.node_store.specs.Store.{Store, node_at, Changes}
use Rattle.prefix_table.specs.declared.node.Node.{Node}
use Rattle.mapping_records.specs.Eids.{covers_eid}
use Rattle.prefix_table.specs.Keys.{key_width, key_len, key_bits}
use Rattle.prefix_table.specs.Sides.{bit_of}
use Rattle.prefix_table.specs.Tree.{Tree, pair_of, pairs, Fits, IsTrie, IsSomething, side_bits}
use Rattle.prefix_table.specs.Tree.Tree.{none, node}
use Rattle.prefix_table.specs.Pairs.{with_pair, without_pair, value_in}
use Rattle.prefix_table.specs.Spelled.{name_of, Spells, tree_of}
use Rattle.prefix_table.specs.Edited.{Uses}
use Rattle.prefix_table.proofs.Bits.{Covers, covers_trans, below_covers, side_fits, covers_from}
use Rattle.prefix_table.proofs.ForkLemmas.{spread, fork, pairs-fork, Top}
use Rattle.prefix_table.proofs.LongestLemmas.{OnPair-all, All-pairs, each_fits}
use Rattle.prefix_table.proofs.OrderLemmas.{Same, Lt-covers, Lt-bits, Same-covers, IsBefore, IsAfter, with_pair-past, with_pair-before, without_pair-past, without_pair-before, value_in-past, value_in-before, value_in-missing, covers-Same}
use Rattle.prefix_table.proofs.StackedLemmas.{IsLong-trie, tree_of-long}

module _ {V : Type 0} where
  -- a tree's name has a node whose key fits
  pub used_at : (store : Store (Node V)) (tree : Tree V) (n iid width bits len : ℕ) → Spells store tree → IsTrie iid width bits len tree → Uses n tree → (top : Node V) × (node_at store n ≡ Some top) × Fits iid width bits len top.eid
  used_at store none n iid width bits len spelled trie used = absurd used
  used_at store (node name key value low high) n iid width bits len spelled trie used =
      elim used [
        | inl here ↦ (record { eid = key; value = value; next = record { zero = name_of low; one = name_of high } }, ap (node_at store) here ∙ spelled.0, trie.0)
        | inr below ↦
            elim below [
              | inl in_low ↦
                  let found = used_at store low n iid width (side_bits key 0) (key_len key + 1) spelled.1 trie.1 in_low in
                  (found.0, found.1, side_fits key (found.0).eid iid width bits len 0 (omega arith) trie.0 found.2)
              | inr in_high ↦
                  let found = used_at store high n iid width (side_bits key 1) (key_len key + 1) spelled.2 trie.2 in_high in
                  (found.0, found.1, side_fits key (found.0).eid iid width bits len 1 (omega arith) trie.0 found.2)
            ]
      ]

  -- a tree stays whose nodes stay
  pub spells_kept : (old new : Store (Node V)) (tree : Tree V) → Spells old tree → ((n : ℕ) (top : Node V) → Uses n tree → node_at old n ≡ Some top → node_at new n ≡ Some top) → Spells new tree
  spells_kept old new none spelled kept = tt
  spells_kept old new (node name key value low high) spelled kept = (
    kept name (record { eid = key; value = value; next = record { zero = name_of low; one = name_of high } }) (inl refl) spelled.0,
    spells_kept old new low spelled.1 (λ n top used. kept n top (inr (inl used))),
    spells_kept old new high spelled.2 (λ n top used. kept n top (inr (inr used))),
  )

  -- the name of a node is none of those of longer keys
  pub apart : (store : Store (Node V)) (tree : Tree V) (at iid width bits len : ℕ) (top : Node V) → Spells store tree → IsTrie iid width bits len tree → node_at store at ≡ Some top → key_len top.eid < len → Uses at tree → ⊥
  apart store tree at iid width bits len top spelled trie found shorter used =
      let other = used_at store tree at iid width bits len spelled trie used in
      let same : other.0 ≡ top = same_Some other.0 top (sym other.1 ∙ found) in
      let len_is : key_len (other.0).eid ≡ key_len top.eid = ap (λ (t : Node V). key_len t.eid) same in
      absurd (omega (arith, shorter, len_is, (other.2).longer))

  -- no name is one of two trees whose keys differ in their first bits
  pub sides_apart : (store : Store (Node V)) (a b : Tree V) (n iid width bits other len : ℕ) → Spells store a → Spells store b → IsTrie iid width bits len a → IsTrie iid width other len b → (bits ≡ other → ⊥) → Uses n a → Uses n b → ⊥
  sides_apart store a b n iid width bits other len spells_a spells_b trie_a trie_b differs used_a used_b =
      let in_a = used_at store a n iid width bits len spells_a trie_a used_a in
      let in_b = used_at store b n iid width other len spells_b trie_b used_b in
      let same : in_a.0 ≡ in_b.0 = same_Some in_a.0 in_b.0 (sym in_a.1 ∙ in_b.1) in
      differs (sym (in_a.2).front ∙ ap (λ (t : Node V). key_bits t.eid len) same ∙ (in_b.2).front)

  -- a name that had no node changes none
  pub fresh_keeps : (old new : Store (Node V)) (name : ℕ) (made : Option (Node V)) → node_at old name ≡ None → Changes old new name made → (n : ℕ) (top : Node V) → node_at old n ≡ Some top → node_at new n ≡ Some top
  fresh_keeps old new name made fresh changes n top found =
      changes.others n (λ same. absurd (cc (ap (node_at old) same, fresh, found))) ∙ found

-- a key is the same as itself
pub same_self : (key : Eid) → Same key key
same_self key = Same-covers key key (record { same_iid = refl; same_width = refl; shorter = omega arith; front = refl }) refl

-- a tree with a name is something
pub something : {V : Type 0} (tree : Tree V) (name : ℕ) → name_of tree ≡ Some name → IsSomething tree
something none name named = absurd (cc (named))
something (node other key value low high) name named = tt

-- on the other side of a node than that of an EID, pairs are after the EID, or before it
abbrev pub IsAcross : {V : Type 0} → Eid → Bool → Eid × V → Type 0
IsAcross eid false pair = IsAfter eid pair
IsAcross eid true pair = IsBefore eid pair

-- a change of pairs at an EID, which leaves those before it and those after it
pub record IsLocal {V : Type 0} (eid : Eid) (change : List (Eid × V) → List (Eid × V)) : Type 0 where
  pub past : (xs ys : List (Eid × V)) → All (IsBefore eid) xs → change (xs ++ ys) ≡ xs ++ change ys
  pub ahead : (xs ys : List (Eid × V)) → All (IsAfter eid) ys → change (xs ++ ys) ≡ change xs ++ ys

pub with_pair-local : {V : Type 0} (eid : Eid) (value : V) → IsLocal eid (with_pair eid value)
with_pair-local eid value = record { past = with_pair-past eid value; ahead = with_pair-before eid value }

pub without_pair-local : {V : Type 0} (eid : Eid) → IsLocal {V = V} eid (without_pair eid)
without_pair-local eid = record { past = without_pair-past eid; ahead = without_pair-before eid }

module _ {V : Type 0} where
  -- keys on the other side of a key
  pub across : (tree : Tree V) (key eid : Eid) (len : ℕ) (side : Bool) → IsTrie eid.iid (key_width eid) (side_bits key (bit_of (not side))) len tree → key_bits eid len ≡ side_bits key (bit_of side) → All (IsAcross eid side) (pairs tree)
  across tree key eid len false trie on =
      All-pairs (IsAfter eid) tree (each_fits (IsAfter eid) tree eid.iid (key_width eid) (side_bits key 1) len trie (λ k v fits. Lt-bits eid k len (sym fits.same_iid) (sym fits.same_width) (omega (arith, on, fits.front))))
  across tree key eid len true trie on =
      All-pairs (IsBefore eid) tree (each_fits (IsBefore eid) tree eid.iid (key_width eid) (side_bits key 0) len trie (λ k v fits. Lt-bits k eid len fits.same_iid fits.same_width (omega (arith, on, fits.front))))

  -- a change at an EID is one of the side where it is, and so is its value
  module _ (eid : Eid) (own near far : List (Eid × V)) (before : All (IsBefore eid) own) where
    pub change-spread : (change : List (Eid × V) → List (Eid × V)) → IsLocal eid change → (side : Bool) → All (IsAcross eid side) far → change (spread side own near far) ≡ spread side own (change near) far
    change-spread change leaves false apart_far = leaves.past own (near ++ far) before ∙ ap (λ l. own ++ l) (leaves.ahead near far apart_far)
    change-spread change leaves true apart_far = leaves.past own (far ++ near) before ∙ ap (λ l. own ++ l) (leaves.past far near apart_far)

    pub value_in-spread : (side : Bool) → All (IsAcross eid side) far → value_in eid (spread side own near far) ≡ value_in eid near
    value_in-spread false apart_far = value_in-past eid own (near ++ far) before ∙ value_in-before eid near far apart_far
    value_in-spread true apart_far = value_in-past eid own (far ++ near) before ∙ value_in-past eid far near apart_far

  pub own_before : (key eid : Eid) (value : Option V) → Covers key eid → key_len key < key_len eid → All (IsBefore eid) (pair_of key value)
  own_before key eid None c shorter = All-nil (IsBefore eid)
  own_before key eid (Some v) c shorter = All-cons (IsBefore eid) (key, v) [] (Lt-covers key eid c shorter) (All-nil (IsBefore eid))

  -- the value of an EID on a side is that of the side
  pub value_on : (old : Store (Node V)) (at : ℕ) (top : Node V) (eid : Eid) (bits len : ℕ) (side : Bool) (near far : Tree V) → Top old at top eid bits len side near far → Covers top.eid eid → key_len top.eid < key_len eid → key_bits eid (key_len top.eid + 1) ≡ side_bits top.eid (bit_of side) → value_in eid (pairs (fork side at top.eid top.value near far)) ≡ value_in eid (pairs near)
  value_on old at top eid bits len side near far t c shorter on =
      ap (value_in eid) (pairs-fork at top.eid top.value near far side)
      ∙ value_in-spread eid (pair_of top.eid top.value) (pairs near) (pairs far) (own_before top.eid eid top.value c shorter) side (across far top.eid eid (key_len top.eid + 1) side t.far_trie on)

  -- where the top doesn't cover an EID, it isn't there
  pub all_missed : (old : Store (Node V)) (at : ℕ) (top : Node V) (eid : Eid) (bits len : ℕ) (low high : Tree V) → Top old at top eid bits len false low high → covers_eid top.eid eid ≡ false → All (λ pair. Same pair.0 eid → ⊥) (pairs (node at top.eid top.value low high))
  all_missed old at top eid bits len low high t missed =
      let P = λ (pair : Eid × V). Same pair.0 eid → ⊥ in
      let not_top : Covers top.eid eid → ⊥ = λ c. false≢true (sym missed ∙ covers_from top.eid eid c) in
      let side = λ (k : Eid) (s : ℕ) (bit : s < 2) (fits : Fits eid.iid (key_width eid) (side_bits top.eid s) (key_len top.eid + 1) k) (same : Same k eid).
      not_top (covers_trans top.eid k eid (below_covers top.eid k eid.iid (key_width eid) s bit (t.fits).same_iid (t.fits).same_width fits) (covers-Same k eid same)) in
      All-pairs P (node at top.eid top.value low high) (
        OnPair-all P top.eid top.value (λ v same. not_top (covers-Same top.eid eid same)),
        each_fits P low eid.iid (key_width eid) (side_bits top.eid 0) (key_len top.eid + 1) t.near_trie (λ k v fits same. side k 0 (omega arith) fits same),
        each_fits P high eid.iid (key_width eid) (side_bits top.eid 1) (key_len top.eid + 1) t.far_trie (λ k v fits same. side k 1 (omega arith) fits same),
      )

  pub value_missed : (old : Store (Node V)) (at : ℕ) (top : Node V) (eid : Eid) (bits len : ℕ) (low high : Tree V) → Top old at top eid bits len false low high → covers_eid top.eid eid ≡ false → value_in eid (pairs (node at top.eid top.value low high)) ≡ None
  value_missed old at top eid bits len low high t missed =
      value_in-missing eid (pairs (node at top.eid top.value low high)) (all_missed old at top eid bits len low high t missed)

  -- what is put before a list that is all after
  pub with_pair-first : (eid : Eid) (value : V) (ys : List (Eid × V)) → All (IsAfter eid) ys → with_pair eid value ys ≡ (eid, value) ∷ ys
  with_pair-first eid value ys after = with_pair-before eid value [] ys after

  pub value_in-first : (eid : Eid) (ys : List (Eid × V)) → All (IsAfter eid) ys → value_in eid ys ≡ None
  value_in-first eid ys after = value_in-before eid [] ys after

  -- all keys on a side of a key are after it
  pub side_after : (tree : Tree V) (key : Eid) (iid width side : ℕ) → side < 2 → key.iid ≡ iid → key_width key ≡ width → IsTrie iid width (side_bits key side) (key_len key + 1) tree → All (IsAfter key) (pairs tree)
  side_after tree key iid width side bit same_iid same_width trie =
      All-pairs (IsAfter key) tree (each_fits (IsAfter key) tree iid width (side_bits key side) (key_len key + 1) trie (λ k v fits. Lt-covers key k (below_covers key k iid width side bit same_iid same_width fits) (omega (arith, fits.longer))))

  -- before what is after it, a key's own value is the first
  pub value_there : (key : Eid) (v : Option V) (ys : List (Eid × V)) → All (IsAfter key) ys → value_in key (pair_of key v ++ ys) ≡ v
  value_there key None ys after = value_in-first key ys after
  value_there key (Some v) ys after = let s = same_self key in rw (s.not_below) refl

  -- a trie is the tree under its name
  pub tree_of-spelled : (store : Store (Node V)) (tree : Tree V) (root : Option ℕ) (iid width bits : ℕ) → name_of tree ≡ root → Spells store tree → IsTrie iid width bits 0 tree → tree_of store root ≡ tree
  tree_of-spelled store tree root iid width bits named spelled trie =
      tree_of-long store tree root 0 named spelled (IsLong-trie tree iid width bits 0 trie)
