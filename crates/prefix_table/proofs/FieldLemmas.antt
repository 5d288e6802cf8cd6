-- The fields of a table after each call.
use Rattle.std.proofs.Common.{◌≡◌, ℕ, zero, suc, ◌+◌, ◌-◌, ◌*◌, ◌/◌, ◌%◌, ◌<◌, ◌≤◌, true, false, cond, is_some, List, [], ◌∷◌, length, All, Option, Some, None, inl, inr, refl, sym, ap, ◌∙◌, arith, subst}
use Rattle.std.proofs.lemmas.Bool.{cases_Bool}
use Rattle.std.proofs.lemmas.List.{length-append}
use Rattle.std.proofs.lemmas.List.Elements.{All-head, All-tail, All-weaker}
use Rattle.mapping_records.specs.declared.eid.Eid.{Eid}
use Rattle.node_store.specs.Store.{Store, node_at, SameNodes}
use Rattle.prefix_table.specs.declared.node.Node.{Node}
use Rattle.prefix_table.specs.declared.node.Root.{Root}
use Rattle.prefix_table.specs.Tree.{Tree, pairs, size, IsTrie, IsSomething}
use Rattle.prefix_table.specs.Tree.Tree.{none, node}
use Rattle.prefix_table.specs.Keys.{key_len}
use Rattle.prefix_table.specs.Limits.{most_pairs}
use Rattle.prefix_table.specs.Tree.{side_bits}
use Rattle.prefix_table.specs.Pairs.{is_below, with_pair, without_pair, value_in}
use Rattle.prefix_table.specs.Spelled.{name_of, Spells, tree_within, grown, tree_of}
use Rattle.prefix_table.specs.Under.{EditedUnder}
use Rattle.prefix_table.specs.Table.{pairs_under, size_under, IsRootIn, IsForest, IsTable, kept_in}
use Rattle.prefix_table.proofs.TopLemmas.{spells_kept, something}

-- 1 for a tree that is something
abbrev top_count : {V : Type 0} → Tree V → ℕ
top_count none = 0
top_count (node name key value low high) = 1

counted : {V : Type 0} (tree : Tree V) → IsSomething tree → top_count tree ≡ 1
counted none is = absurd is
counted (node name key value low high) is = refl

-- a trie has less than twice as many nodes as pairs
pub size-twice : {V : Type 0} (tree : Tree V) (iid width bits len : ℕ) → IsTrie iid width bits len tree → size tree + top_count tree ≤ 2 * length (pairs tree)
size-twice none iid width bits len trie = omega arith
size-twice (node name key None low high) iid width bits len trie =
    let in_low = size-twice low iid width (side_bits key 0) (key_len key + 1) trie.1 in
    let in_high = size-twice high iid width (side_bits key 1) (key_len key + 1) trie.2 in
    omega (arith, in_low, in_high, counted low (trie.3).0, counted high (trie.3).1, length-append (pairs low) (pairs high))
size-twice (node name key (Some value) low high) iid width bits len trie =
    let in_low = size-twice low iid width (side_bits key 0) (key_len key + 1) trie.1 in
    let in_high = size-twice high iid width (side_bits key 1) (key_len key + 1) trie.2 in
    omega (arith, in_low, in_high, length-append (pairs low) (pairs high))

module _ {V : Type 0} where
  -- there are at most twice as many nodes as pairs, and no more roots than pairs
  pub under-twice : (store : Store (Node V)) (roots : List Root) → All (IsRootIn store) roots → (size_under store roots ≤ 2 * length (pairs_under store roots)) × (length roots ≤ length (pairs_under store roots))
  under-twice store [] each = (omega arith, omega arith)
  under-twice store (root ∷ roots) each =
      let r = All-head (IsRootIn store) root roots each in
      let tree = tree_of store (Some root.name) in
      let rest = under-twice store roots (All-tail (IsRootIn store) root roots each) in
      let one = counted tree (something tree root.name r.named) in
      let here = size-twice tree (root.key / 256) (root.key % 256) 0 0 r.trie in
      let len = length-append (pairs tree) (pairs_under store roots) in
      (omega (arith, rest.0, here, len), omega (arith, rest.1, here, one, len))

  pub length-with_pair : (eid : Eid) (value : V) (l : List (Eid × V)) → length (with_pair eid value l) ≡ length l + cond (is_some (value_in eid l)) 0 1
  length-with_pair eid value [] = refl
  length-with_pair eid value ((key, old) ∷ l) =
      elim (cases_Bool (is_below key eid)) [
        | inl below ↦ rw (below) (omega (arith, length-with_pair eid value l))
        | inr not_below ↦
            elim (cases_Bool (is_below eid key)) [
              | inl above ↦ rw (not_below, above) (omega arith)
              | inr not_above ↦ rw (not_below, not_above) (omega arith)
            ]
      ]

  pub length-without_pair : (eid : Eid) (l : List (Eid × V)) → length (without_pair eid l) + cond (is_some (value_in eid l)) 1 0 ≡ length l
  length-without_pair eid [] = refl
  length-without_pair eid ((key, old) ∷ l) =
      elim (cases_Bool (is_below key eid)) [
        | inl below ↦ rw (below) (omega (arith, length-without_pair eid l))
        | inr not_below ↦
            elim (cases_Bool (is_below eid key)) [
              | inl above ↦ rw (not_below, above) (omega arith)
              | inr not_above ↦ rw (not_below, not_above) (omega arith)
            ]
      ]

  -- there is room for the nodes of each EID that is spare
  pub room_for : (store : Store (Node V)) (roots : List Root) (spare len capacity : ℕ) → IsTable store roots spare len capacity → (2 * spare ≤ store.rooms) × (length roots + spare ≤ capacity) × (size_under store roots ≤ 2 * len) × (length roots ≤ len)
  room_for store roots spare len capacity t =
      let most = under-twice store roots t.forest.each in
      (omega (arith, t.slots, t.rooms, most.0, t.counted), omega (arith, t.enough, most.1, t.counted), omega (arith, most.0, t.counted), omega (arith, most.1, t.counted))

  -- what a table keeps
  pub kept-most : (store : Store (Node V)) (roots : List Root) (spare len capacity : ℕ) → IsTable store roots spare len capacity → kept_in store roots ≤ 7 * (len + spare)
  kept-most store roots spare len capacity t =
      let most = under-twice store roots t.forest.each in
      omega (arith, t.slots, t.rooms, most.1, t.counted)

  -- the fields after a new EID, and after a new value
  pub table_new : (old new : Store (Node V)) (roots after : List Root) (eid : Eid) (value : V) (was : Option V) (spare len old_capacity capacity : ℕ) → IsTable old roots spare len old_capacity → EditedUnder old new roots after (with_pair eid value) eid was → capacity ≡ old_capacity → is_some was ≡ false → 0 < spare → IsTable new after (spare - 1) (len + 1) capacity
  table_new old new roots after eid value was spare len old_capacity capacity t u same missing some =
      let none_was : is_some (value_in eid (pairs_under old roots)) ≡ false = ap is_some (sym u.found) ∙ missing in
      let grows : length (with_pair eid value (pairs_under old roots)) ≡ length (pairs_under old roots) + 1 = length-with_pair eid value (pairs_under old roots) ∙ ap (λ b. length (pairs_under old roots) + cond b 0 1) none_was in
      record {
        forest = u.forest;
        counted = omega (arith, t.counted, ap length u.pairs, grows);
        slots = omega (arith, t.slots, u.slots, some);
        rooms = omega (arith, t.rooms, u.rooms, u.slots);
        enough = omega (arith, t.enough, same, some);
        small = omega (arith, t.small, some);
      }

  -- after a change that leaves as many pairs
  table_even : (old new : Store (Node V)) (roots after : List Root) (change : List (Eid × V) → List (Eid × V)) (eid : Eid) (was : Option V) (spare len old_capacity capacity : ℕ) → IsTable old roots spare len old_capacity → EditedUnder old new roots after change eid was → capacity ≡ old_capacity → length (change (pairs_under old roots)) ≡ length (pairs_under old roots) → IsTable new after spare len capacity
  table_even old new roots after change eid was spare len old_capacity capacity t u same stays = record {
    forest = u.forest;
    counted = omega (arith, t.counted, ap length u.pairs, stays);
    slots = omega (arith, t.slots, u.slots);
    rooms = omega (arith, t.rooms, u.rooms, u.slots);
    enough = omega (arith, t.enough, same);
    small = t.small;
  }

  pub table_same : (old new : Store (Node V)) (roots after : List Root) (eid : Eid) (value : V) (was : Option V) (spare len old_capacity capacity : ℕ) → IsTable old roots spare len old_capacity → EditedUnder old new roots after (with_pair eid value) eid was → capacity ≡ old_capacity → is_some was ≡ true → IsTable new after spare len capacity
  table_same old new roots after eid value was spare len old_capacity capacity t u same there =
      let some_was : is_some (value_in eid (pairs_under old roots)) ≡ true = ap is_some (sym u.found) ∙ there in
      let stays : length (with_pair eid value (pairs_under old roots)) ≡ length (pairs_under old roots) + 0 = length-with_pair eid value (pairs_under old roots) ∙ ap (λ b. length (pairs_under old roots) + cond b 0 1) some_was in
      table_even old new roots after (with_pair eid value) eid was spare len old_capacity capacity t u same (omega (arith, stays))

  -- and after an EID is taken out, or none
  pub table_taken : (old new : Store (Node V)) (roots after : List Root) (eid : Eid) (was : Option V) (spare len old_capacity capacity : ℕ) → IsTable old roots spare len old_capacity → EditedUnder old new roots after (without_pair eid) eid was → capacity ≡ old_capacity → is_some was ≡ true → IsTable new after (spare + 1) (len - 1) capacity
  table_taken old new roots after eid was spare len old_capacity capacity t u same there =
      let some_was : is_some (value_in eid (pairs_under old roots)) ≡ true = ap is_some (sym u.found) ∙ there in
      let falls : length (without_pair eid (pairs_under old roots)) + 1 ≡ length (pairs_under old roots) = ap (λ b. length (without_pair eid (pairs_under old roots)) + cond b 1 0) (sym some_was) ∙ length-without_pair eid (pairs_under old roots) in
      record {
        forest = u.forest;
        counted = omega (arith, t.counted, ap length u.pairs, falls);
        slots = omega (arith, t.slots, u.slots, t.counted, falls);
        rooms = omega (arith, t.rooms, u.rooms, u.slots);
        enough = omega (arith, t.enough, same, t.counted, falls);
        small = omega (arith, t.small, t.counted, falls);
      }

  pub table_missed : (old new : Store (Node V)) (roots after : List Root) (eid : Eid) (was : Option V) (spare len old_capacity capacity : ℕ) → IsTable old roots spare len old_capacity → EditedUnder old new roots after (without_pair eid) eid was → capacity ≡ old_capacity → is_some was ≡ false → IsTable new after spare len capacity
  table_missed old new roots after eid was spare len old_capacity capacity t u same missing =
      let none_was : is_some (value_in eid (pairs_under old roots)) ≡ false = ap is_some (sym u.found) ∙ missing in
      let stays : length (without_pair eid (pairs_under old roots)) + 0 ≡ length (pairs_under old roots) = ap (λ b. length (without_pair eid (pairs_under old roots)) + cond b 1 0) (sym none_was) ∙ length-without_pair eid (pairs_under old roots) in
      table_even old new roots after (without_pair eid) eid was spare len old_capacity capacity t u same (omega (arith, stays))

module _ {V : Type 0} (old new : Store (Node V)) (same : SameNodes old new) where
  node_same : (n : ℕ) → node_at new n ≡ node_at old n
  node_same n = same n

  by_node : (below later : Option ℕ → Tree V) → ((name : Option ℕ) → later name ≡ below name) → (name : ℕ) (o : Option (Node V)) → grown later name o ≡ grown below name o
  by_node below later stays name None = refl
  by_node below later stays name (Some top) = rw (stays top.next.zero, stays top.next.one) refl

  within_same : (depth : ℕ) (name : Option ℕ) → tree_within depth new name ≡ tree_within depth old name
  unfolding tree_within
  within_same zero name = refl
  within_same (suc depth) None = refl
  within_same (suc depth) (Some name) =
      ap (grown (tree_within depth new) name) (node_same name) ∙ by_node (tree_within depth old) (tree_within depth new) (λ n. within_same depth n) name (node_at old name)

  tree_same : (name : Option ℕ) → tree_of new name ≡ tree_of old name
  unfolding tree_of
  tree_same name = within_same 130 name

  spells_same : (tree : Tree V) → Spells old tree → Spells new tree
  spells_same tree spelled = spells_kept old new tree spelled (λ n top used found. node_same n ∙ found)

  root_same : (root : Root) → IsRootIn old root → IsRootIn new root
  root_same root r = record {
    named = ap name_of (tree_same (Some root.name)) ∙ r.named;
    spelled = subst (λ (t : Tree V). Spells new t) (sym (tree_same (Some root.name))) (spells_same (tree_of old (Some root.name)) r.spelled);
    trie = subst (λ (t : Tree V). IsTrie (root.key / 256) (root.key % 256) 0 0 t) (sym (tree_same (Some root.name))) r.trie;
  }

  pub under_same : (roots : List Root) → pairs_under new roots ≡ pairs_under old roots
  under_same [] = refl
  under_same (root ∷ roots) = rw (tree_same (Some root.name), under_same roots) refl

  size_under_same : (roots : List Root) → size_under new roots ≡ size_under old roots
  size_under_same [] = refl
  size_under_same (root ∷ roots) = rw (tree_same (Some root.name), size_under_same roots) refl

  pub forest_same : (roots : List Root) → IsForest old roots → IsForest new roots
  forest_same roots f = record { each = All-weaker (IsRootIn old) (IsRootIn new) root_same roots f.each; rise = f.rise }

  pub table_reserved : (roots after : List Root) (spare more len old_capacity capacity : ℕ) → IsTable old roots spare len old_capacity → after ≡ roots → new.rooms + length old.slots ≡ length new.slots + old.rooms → length new.slots ≡ 2 * (len + more) → len + more ≤ capacity → len + more ≤ most_pairs → IsTable new after more len capacity
  table_reserved roots after spare more len old_capacity capacity t is rooms slots enough small = record {
    forest = subst (λ (l : List Root). IsForest new l) (sym is) (forest_same roots t.forest);
    counted = t.counted ∙ ap length (sym (ap (pairs_under new) is ∙ under_same roots));
    slots = slots;
    rooms = omega (arith, t.rooms, rooms, ap (size_under new) is, size_under_same roots);
    enough = enough;
    small = small;
  }
