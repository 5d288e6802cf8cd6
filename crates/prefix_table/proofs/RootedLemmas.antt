-- A pair is put or taken under a root.
use Rattle.std.proofs.Common.{◌≡◌, ℕ, ◌≤◌, List, ◌++◌, get_or, set, All, Option, Some, None, refl, sym, ap, ◌∙◌, arith, subst}
use Rattle.std.specs.List.{insert, remove}
use Rattle.mapping_records.specs.declared.eid.Eid.{Eid}
use Rattle.node_store.specs.Store.{Store}
use Rattle.prefix_table.specs.declared.node.Node.{Node}
use Rattle.prefix_table.specs.declared.node.Root.{Root}
use Rattle.prefix_table.specs.Keys.{key_bits}
use Rattle.prefix_table.specs.Tree.{Tree}
use Rattle.prefix_table.specs.Tree.Tree.{none}
use Rattle.prefix_table.specs.Pairs.{with_pair, without_pair, value_in}
use Rattle.prefix_table.specs.Spelled.{tree_of}
use Rattle.prefix_table.specs.Edited.{Holds, Takes, Edited, Edits, Puts}
use Rattle.prefix_table.specs.Roots.{IsAt, IsGapFor}
use Rattle.prefix_table.specs.Under.{EditedUnder}
use Rattle.prefix_table.specs.Table.{root_key, pairs_under, size_under, IsRootIn, IsForest}
use Rattle.prefix_table.proofs.PlaceLemmas.{rises_set, rises_insert, rises_remove}
use Rattle.prefix_table.proofs.ForestLemmas.{forest_edited, forest_gone}
use Rattle.prefix_table.proofs.AroundLemmas.{AroundRoot, around_root, around_gap, value_around, change_around}
use Rattle.prefix_table.proofs.TopLemmas.{IsLocal, with_pair-local, without_pair-local}

module _ {V : Type 0} where
  -- what the EID's root holds, and takes
  abbrev pub holds_root : (store : Store (Node V)) (roots : List Root) (eid : Eid) (at : ℕ) (root : Root) → IsForest store roots → IsAt roots (root_key eid) at → root ≡ get_or roots at root → key_bits eid 0 ≡ 0 → Holds store (Some root.name) 0 eid
  holds_root store roots eid at root forest found read bits =
      let a = around_root store roots eid at root forest found read in
      record {
        tree = tree_of store (Some root.name);
        bits = 0;
        is = record { named = (a.root_is).named; spelled = (a.root_is).spelled; trie = (a.root_is).trie };
        fits = record { same_iid = refl; same_width = refl; longer = omega arith; front = bits };
      }

  pub takes_root : (store : Store (Node V)) (roots : List Root) (eid : Eid) (at : ℕ) (root : Root) → IsForest store roots → IsAt roots (root_key eid) at → root ≡ get_or roots at root → key_bits eid 0 ≡ 0 → (value_in eid (pairs_under store roots) ≡ None → 2 ≤ store.rooms) → Takes store (Some root.name) 0 eid
  takes_root store roots eid at root forest found read bits room =
      let a = around_root store roots eid at root forest found read in
      record {
        holds = holds_root store roots eid at root forest found read bits;
        room = λ missing. room (value_around store roots eid (tree_of store (Some root.name)) a.around ∙ missing);
      }

  -- the pairs under a root changed
  module _ (old new : Store (Node V)) (roots : List Root) (change : List (Eid × V) → List (Eid × V)) (eid : Eid) (at : ℕ) (root : Root) (later : Option ℕ) (was : Option V) (leaves : IsLocal eid change) (forest : IsForest old roots) (found : IsAt roots (root_key eid) at) (read : root ≡ get_or roots at root) (bits : key_bits eid 0 ≡ 0) (edits : Edits old new change (Some root.name) 0 eid later was) where
    abbrev before : Tree V
    before = tree_of old (Some root.name)

    abbrev ar : AroundRoot old roots eid at root
    ar = around_root old roots eid at root forest found read

    abbrev edited : Edited old new change 0 0 eid before later was
    edited = let h = holds_root old roots eid at root forest found read bits in edits before 0 h.is h.fits

    -- a node is left under it
    pub edited_root : (name : ℕ) → later ≡ Some name → EditedUnder old new roots (set roots at (record { key = root.key; name = name })) change eid was
    edited_root name is =
        let a = ar.around in
        let g = edited in
        let made : Root = record { key = root.key; name = name } in
        let e = forest_edited old new change eid before later was a.spelled a.trie g a.front a.back a.in_front a.in_back a.lower a.upper made ar.key_is is in
        let set_is = ar.set_is made in
        record {
          forest = record {
            each = subst (λ (l : List Root). All (IsRootIn new) l) (sym set_is) e.each;
            rise = rises_set roots root.key at name forest.rise (record { in_range = found.in_range; has_key = found.has_key ∙ sym ar.key_is });
          };
          pairs = ap (pairs_under new) set_is ∙ e.pairs ∙ ap (λ l. pairs_under old a.front ++ (l ++ pairs_under old a.back)) g.list ∙ sym (change_around old roots change eid before a leaves);
          found = g.found ∙ sym (value_around old roots eid before a);
          rooms = omega (arith, ap (size_under new) set_is, e.rooms, a.size_is);
          slots = g.slots;
        }

    -- no node is left, and the root goes
    pub gone_root : later ≡ None → EditedUnder old new roots (remove roots at) change eid was
    gone_root is =
        let a = ar.around in
        let g = edited in
        let e = forest_gone old new change eid before later was a.spelled a.trie g a.front a.back a.in_front a.in_back a.lower a.upper is in
        let remove_is = ar.remove_is in
        record {
          forest = record {
            each = subst (λ (l : List Root). All (IsRootIn new) l) (sym remove_is) e.each;
            rise = rises_remove roots at forest.rise found.in_range;
          };
          pairs = ap (pairs_under new) remove_is ∙ e.pairs ∙ ap (λ l. pairs_under old a.front ++ (l ++ pairs_under old a.back)) g.list ∙ sym (change_around old roots change eid before a leaves);
          found = g.found ∙ sym (value_around old roots eid before a);
          rooms = omega (arith, ap (size_under new) remove_is, e.rooms, a.size_is);
          slots = g.slots;
        }

  pub put_gap : (old new : Store (Node V)) (roots : List Root) (eid : Eid) (value : V) (at key name : ℕ) (was : Option V) → IsForest old roots → IsGapFor roots key at → key ≡ root_key eid → key_bits eid 0 ≡ 0 → Puts old new None 0 eid value name was → EditedUnder old new roots (insert roots at (record { key = key; name = name })) (with_pair eid value) eid was
  put_gap old new roots eid value at key name was forest gap key_is bits puts =
      let a = around_gap old roots eid at forest (subst (λ (k : ℕ). IsGapFor roots k at) key_is gap) in
      let g = puts none 0 (record { named = refl; spelled = tt; trie = tt }) (record { same_iid = refl; same_width = refl; longer = omega arith; front = bits }) in
      let made : Root = record { key = key; name = name } in
      let e = forest_edited old new (with_pair eid value) eid none (Some name) was tt tt g a.front a.back a.in_front a.in_back a.lower a.upper made key_is refl in
      record {
        forest = record { each = e.each; rise = rises_insert roots key at name forest.rise gap };
        pairs = e.pairs ∙ ap (λ l. pairs_under old a.front ++ (l ++ pairs_under old a.back)) g.list ∙ sym (change_around old roots (with_pair eid value) eid none a (with_pair-local eid value));
        found = g.found ∙ sym (value_around old roots eid none a);
        rooms = omega (arith, e.rooms, a.size_is);
        slots = g.slots;
      }

  -- where the EID's root isn't, the EID isn't
  pub missing_gap : (store : Store (Node V)) (roots : List Root) (eid : Eid) (at key : ℕ) → IsForest store roots → IsGapFor roots key at → key ≡ root_key eid → value_in eid (pairs_under store roots) ≡ None
  missing_gap store roots eid at key forest gap key_is =
      value_around store roots eid none (around_gap store roots eid at forest (subst (λ (k : ℕ). IsGapFor roots k at) key_is gap))

  -- and nothing is taken
  pub kept_gap : (store : Store (Node V)) (roots : List Root) (eid : Eid) (at key : ℕ) → IsForest store roots → IsGapFor roots key at → key ≡ root_key eid → without_pair eid (pairs_under store roots) ≡ pairs_under store roots
  kept_gap store roots eid at key forest gap key_is =
      let a = around_gap store roots eid at forest (subst (λ (k : ℕ). IsGapFor roots k at) key_is gap) in
      change_around store roots (without_pair eid) eid none a (without_pair-local eid) ∙ sym a.is

  pub taken_gap : (store : Store (Node V)) (roots : List Root) (eid : Eid) (at key : ℕ) → IsForest store roots → IsGapFor roots key at → key ≡ root_key eid → EditedUnder store store roots roots (without_pair eid) eid None
  taken_gap store roots eid at key forest gap key_is = record {
    forest = forest;
    pairs = sym (kept_gap store roots eid at key forest gap key_is);
    found = sym (missing_gap store roots eid at key forest gap key_is);
    rooms = refl;
    slots = refl;
  }
