-- The roots around that of an EID.
use Rattle.std.proofs.Common.{◌≡◌, ℕ, ◌+◌, ◌<◌, List, ◌∷◌, ◌++◌, get_or, set, take, drop, All, Some, sym, ap, ◌∙◌, arith, subst}
use Rattle.std.specs.List.{remove}
use Rattle.std.proofs.lemmas.List.{take-append-drop}
use Rattle.std.proofs.lemmas.List.Elements.{All-head, All-tail}
use Rattle.mapping_records.specs.declared.eid.Eid.{Eid}
use Rattle.node_store.specs.Store.{Store}
use Rattle.prefix_table.specs.declared.node.Node.{Node}
use Rattle.prefix_table.specs.declared.node.Root.{Root}
use Rattle.prefix_table.specs.Keys.{key_width}
use Rattle.prefix_table.specs.Tree.{Tree, pairs, size, IsTrie}
use Rattle.prefix_table.specs.Tree.Tree.{none}
use Rattle.prefix_table.specs.Pairs.{value_in}
use Rattle.prefix_table.specs.Spelled.{Spells, tree_of, IsRoot}
use Rattle.prefix_table.specs.Roots.{IsAt, IsGapFor}
use Rattle.prefix_table.specs.Table.{root_key, pairs_under, size_under, IsRootIn, IsForest}
use Rattle.prefix_table.proofs.OrderLemmas.{value_in-past, value_in-before}
use Rattle.prefix_table.proofs.TopLemmas.{IsLocal}
use Rattle.prefix_table.proofs.PlaceLemmas.{gap_lower, gap_upper}
use Rattle.prefix_table.proofs.ForestLemmas.{under_before, under_after, size_under-append}
use Rattle.prefix_table.proofs.TableLemmas.{pairs_under-append, All-split, cut_at, root_of, get_or_same}

module _ {V : Type 0} where
  -- roots around the place of an EID, and the trie that is there
  pub record Around (store : Store (Node V)) (roots : List Root) (eid : Eid) (tree : Tree V) : Type 0 where
    pub front : List Root
    pub back : List Root
    pub in_front : All (IsRootIn store) front
    pub in_back : All (IsRootIn store) back
    pub lower : All (λ r. r.key < root_key eid) front
    pub upper : All (λ r. root_key eid < r.key) back
    pub is : pairs_under store roots ≡ pairs_under store front ++ (pairs tree ++ pairs_under store back)
    pub size_is : size_under store roots ≡ size_under store front + (size tree + size_under store back)
    pub spelled : Spells store tree
    pub trie : IsTrie eid.iid (key_width eid) 0 0 tree

  -- the value of an EID is that of its trie
  pub value_around : (store : Store (Node V)) (roots : List Root) (eid : Eid) (tree : Tree V) → Around store roots eid tree → value_in eid (pairs_under store roots) ≡ value_in eid (pairs tree)
  value_around store roots eid tree a =
      ap (value_in eid) a.is
      ∙ value_in-past eid (pairs_under store a.front) (pairs tree ++ pairs_under store a.back) (under_before store a.front eid a.in_front a.lower)
      ∙ value_in-before eid (pairs tree) (pairs_under store a.back) (under_after store a.back eid a.in_back a.upper)

  -- a change of the list at an EID is one of its trie's pairs
  pub change_around : (store : Store (Node V)) (roots : List Root) (change : List (Eid × V) → List (Eid × V)) (eid : Eid) (tree : Tree V) (a : Around store roots eid tree) → IsLocal eid change → change (pairs_under store roots) ≡ pairs_under store a.front ++ (change (pairs tree) ++ pairs_under store a.back)
  change_around store roots change eid tree a leaves =
      ap change a.is
      ∙ leaves.past (pairs_under store a.front) (pairs tree ++ pairs_under store a.back) (under_before store a.front eid a.in_front a.lower)
      ∙ ap (λ l. pairs_under store a.front ++ l) (leaves.ahead (pairs tree) (pairs_under store a.back) (under_after store a.back eid a.in_back a.upper))

  abbrev pub around_gap : (store : Store (Node V)) (roots : List Root) (eid : Eid) (at : ℕ) → IsForest store roots → IsGapFor roots (root_key eid) at → Around store roots eid none
  around_gap store roots eid at forest gap =
      let whole : roots ≡ take at roots ++ drop at roots = sym (take-append-drop at roots) in
      let ends = All-split (IsRootIn store) (take at roots) (drop at roots) (subst (λ (l : List Root). All (IsRootIn store) l) whole forest.each) in
      record {
        front = take at roots;
        back = drop at roots;
        in_front = ends.0;
        in_back = ends.1;
        lower = gap_lower roots (root_key eid) at gap;
        upper = gap_upper roots (root_key eid) at gap;
        is = ap (pairs_under store) whole ∙ pairs_under-append store (take at roots) (drop at roots);
        size_is = omega (arith, ap (size_under store) whole, size_under-append store (take at roots) (drop at roots));
        spelled = tt;
        trie = tt;
      }

  -- the roots around one, which may get another name
  pub record AroundRoot (store : Store (Node V)) (roots : List Root) (eid : Eid) (at : ℕ) (root : Root) : Type 0 where
    pub around : Around store roots eid (tree_of store (Some root.name))
    pub set_is : (r : Root) → set roots at r ≡ around.front ++ (r ∷ around.back)
    pub remove_is : remove roots at ≡ around.front ++ around.back
    pub root_is : IsRoot store (Some root.name) eid.iid (key_width eid)
    pub key_is : root.key ≡ root_key eid

  pub around_root : (store : Store (Node V)) (roots : List Root) (eid : Eid) (at : ℕ) (root : Root) → IsForest store roots → IsAt roots (root_key eid) at → root ≡ get_or roots at root → AroundRoot store roots eid at root
  around_root store roots eid at root forest found read =
      let c = cut_at roots (root_key eid) at forest.rise found in
      let same : c.root ≡ root = c.here ∙ get_or_same roots at c.root root found.in_range ∙ sym read in
      let ends = All-split (IsRootIn store) c.front (c.root ∷ c.back) (subst (λ (l : List Root). All (IsRootIn store) l) c.is forest.each) in
      let here = root_of store c.root eid (All-head (IsRootIn store) c.root c.back ends.1) c.has_key in
      subst (λ (r : Root). AroundRoot store roots eid at r) same (record {
        around = record {
          front = c.front;
          back = c.back;
          in_front = ends.0;
          in_back = All-tail (IsRootIn store) c.root c.back ends.1;
          lower = c.lower;
          upper = c.upper;
          is = ap (pairs_under store) c.is ∙ pairs_under-append store c.front (c.root ∷ c.back);
          size_is = ap (size_under store) c.is ∙ size_under-append store c.front (c.root ∷ c.back);
          spelled = here.spelled;
          trie = here.trie;
        };
        set_is = c.set_is;
        remove_is = c.remove_is;
        root_is = here;
        key_is = c.has_key;
      })
