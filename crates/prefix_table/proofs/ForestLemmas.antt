-- A trie is changed under one root, and all others stay.
use Rattle.std.proofs.Common.{◌≡◌, ◌≢◌, ℕ, ◌+◌, ◌/◌, ◌%◌, ◌<◌, List, [], ◌∷◌, ◌++◌, All, Option, Some, None, inl, inr, refl, sym, ap, ◌∙◌, arith, subst}
use Rattle.std.proofs.lemmas.Bool.{cases_eq, eq-eqb, ne_eqb, lt-ltb, le-ltb}
use Rattle.std.proofs.lemmas.Option.{same_Some}
use Rattle.std.proofs.lemmas.List.Elements.{All-nil, All-cons, All-append, All-head, All-tail, All-weaker}
use native.Mathlib.Nat.{div-add-mod}
use Rattle.std.proofs.lemmas.Nat.{div-mul-add, mod-mul-add}
use Rattle.mapping_records.specs.declared.eid.Eid.{Eid}
use Rattle.node_store.specs.Store.{Store}
use Rattle.prefix_table.specs.declared.node.Node.{Node}
use Rattle.prefix_table.specs.declared.node.Root.{Root}
use Rattle.prefix_table.specs.Keys.{key_width}
use Rattle.prefix_table.specs.Tree.{Tree, pairs, size, Fits, IsTrie}
use Rattle.prefix_table.specs.Tree.Tree.{none}
use Rattle.prefix_table.specs.Spelled.{name_of, Spells, tree_of, IsRoot}
use Rattle.prefix_table.specs.Edited.{Edited}
use Rattle.prefix_table.specs.Table.{root_key, pairs_under, size_under, IsRootIn}
use Rattle.prefix_table.proofs.NumberOrder.{is_below-numbers}
use Rattle.prefix_table.proofs.LongestLemmas.{All-pairs, each_fits}
use Rattle.prefix_table.proofs.SearchLemmas.{width-most}
use Rattle.prefix_table.proofs.OrderLemmas.{Lt, IsBefore, IsAfter}
use Rattle.prefix_table.proofs.TopLemmas.{used_at, spells_kept, tree_of-spelled}
use Rattle.prefix_table.proofs.EditLemmas.{nothing_named}
use Rattle.prefix_table.proofs.TableLemmas.{pairs_under-append}

-- keys under a lesser root are below
pub Lt-roots : (a b : Eid) → root_key a < root_key b → Lt a b
Lt-roots a b less =
    let small_a : key_width a < 256 = omega (arith, width-most a.prefix.addr) in
    let small_b : key_width b < 256 = omega (arith, width-most b.prefix.addr) in
    elim (cases_eq a.iid b.iid) [
      | inl same ↦
          let narrow : key_width a < key_width b = omega (arith, same, less) in
          record {
            below = is_below-numbers a b ∙ rw (eq-eqb a.iid b.iid same, ne_eqb (key_width a) (key_width b) (λ e. absurd (omega (arith, e, narrow))), lt-ltb (key_width a) (key_width b) narrow) refl;
            above = is_below-numbers b a ∙ rw (eq-eqb b.iid a.iid (sym same), ne_eqb (key_width b) (key_width a) (λ e. absurd (omega (arith, e, narrow))), le-ltb (key_width b) (key_width a) (omega (arith, narrow))) refl;
          }
      | inr differ ↦
          let first : a.iid < b.iid = omega (arith, differ, less, small_a, small_b) in
          record {
            below = is_below-numbers a b ∙ rw (ne_eqb a.iid b.iid differ, lt-ltb a.iid b.iid first) refl;
            above = is_below-numbers b a ∙ rw (ne_eqb b.iid a.iid (λ e. differ (sym e)), le-ltb b.iid a.iid (omega (arith, first))) refl;
          }
    ]

-- a key that fits a root has its number
pub fits_key : (root : Root) (key : Eid) → Fits (root.key / 256) (root.key % 256) 0 0 key → root_key key ≡ root.key
fits_key root key fits = omega (arith, fits.same_iid, fits.same_width, div-add-mod root.key 256)

-- the forest after a trie between front and back was changed
pub record ForestEdited {V : Type 0} (old new : Store (Node V)) (front back after : List Root) (before now : Tree V) : Type 0 where
  pub each : All (IsRootIn new) after
  pub pairs : pairs_under new after ≡ pairs_under old front ++ (pairs now ++ pairs_under old back)
  pub rooms : new.rooms + size_under new after ≡ old.rooms + (size_under old front + (size before + size_under old back))

module _ {V : Type 0} where
  pub size_under-append : (store : Store (Node V)) (front back : List Root) → size_under store (front ++ back) ≡ size_under store front + size_under store back
  size_under-append store [] back = omega arith
  size_under-append store (root ∷ front) back = omega (arith, size_under-append store front back)

  pub under_before : (store : Store (Node V)) (roots : List Root) (eid : Eid) → All (IsRootIn store) roots → All (λ r. r.key < root_key eid) roots → All (IsBefore eid) (pairs_under store roots)
  under_before store [] eid each lower = All-nil (IsBefore eid)
  under_before store (root ∷ roots) eid each lower =
      let r = All-head (IsRootIn store) root roots each in
      let less = All-head (λ r. r.key < root_key eid) root roots lower in
      All-append (IsBefore eid) (pairs (tree_of store (Some root.name))) (pairs_under store roots)
      (All-pairs (IsBefore eid) (tree_of store (Some root.name)) (each_fits (IsBefore eid) (tree_of store (Some root.name)) (root.key / 256) (root.key % 256) 0 0 r.trie (λ k v fits. Lt-roots k eid (omega (arith, fits_key root k fits, less)))))
      (under_before store roots eid (All-tail (IsRootIn store) root roots each) (All-tail (λ r. r.key < root_key eid) root roots lower))

  pub under_after : (store : Store (Node V)) (roots : List Root) (eid : Eid) → All (IsRootIn store) roots → All (λ r. root_key eid < r.key) roots → All (IsAfter eid) (pairs_under store roots)
  under_after store [] eid each upper = All-nil (IsAfter eid)
  under_after store (root ∷ roots) eid each upper =
      let r = All-head (IsRootIn store) root roots each in
      let more = All-head (λ r. root_key eid < r.key) root roots upper in
      All-append (IsAfter eid) (pairs (tree_of store (Some root.name))) (pairs_under store roots)
      (All-pairs (IsAfter eid) (tree_of store (Some root.name)) (each_fits (IsAfter eid) (tree_of store (Some root.name)) (root.key / 256) (root.key % 256) 0 0 r.trie (λ k v fits. Lt-roots eid k (omega (arith, fits_key root k fits, more)))))
      (under_after store roots eid (All-tail (IsRootIn store) root roots each) (All-tail (λ r. root_key eid < r.key) root roots upper))

  -- a trie was changed under the root of an EID
  module _ (old new : Store (Node V)) (change : List (Eid × V) → List (Eid × V)) (eid : Eid) (tree : Tree V) (at : Option ℕ) (was : Option V) (spelled : Spells old tree) (trie : IsTrie eid.iid (key_width eid) 0 0 tree) (g : Edited old new change 0 0 eid tree at was) where
    stays : (root : Root) → IsRootIn old root → root.key ≢ root_key eid → Spells new (tree_of old (Some root.name))
    stays root r other =
        spells_kept old new (tree_of old (Some root.name)) r.spelled (λ n top used found. g.kept n top found (λ used_there.
        let here = used_at old (tree_of old (Some root.name)) n (root.key / 256) (root.key % 256) 0 0 r.spelled r.trie used in
        let there = used_at old tree n eid.iid (key_width eid) 0 0 spelled trie used_there in
        let same : here.0 ≡ there.0 = same_Some here.0 there.0 (sym here.1 ∙ there.1) in
        let iid : (here.0).eid.iid ≡ (there.0).eid.iid = ap (λ (t : Node V). t.eid.iid) same in
        let wide : key_width (here.0).eid ≡ key_width (there.0).eid = ap (λ (t : Node V). key_width t.eid) same in
        other (omega (arith, fits_key root (here.0).eid here.2, iid, wide, (there.2).same_iid, (there.2).same_width))))

    -- a trie of another root stays
    root_stays : (root : Root) → IsRootIn old root → root.key ≢ root_key eid → tree_of new (Some root.name) ≡ tree_of old (Some root.name)
    root_stays root r other =
        tree_of-spelled new (tree_of old (Some root.name)) (Some root.name) (root.key / 256) (root.key % 256) 0 r.named (stays root r other) r.trie

    root_kept : (root : Root) → IsRootIn old root → root.key ≢ root_key eid → IsRootIn new root
    root_kept root r other =
        let same = root_stays root r other in
        record {
          named = ap name_of same ∙ r.named;
          spelled = subst (λ (t : Tree V). Spells new t) (sym same) (stays root r other);
          trie = subst (λ (t : Tree V). IsTrie (root.key / 256) (root.key % 256) 0 0 t) (sym same) r.trie;
        }

    roots_kept : (roots : List Root) → All (IsRootIn old) roots → All (λ r. r.key ≢ root_key eid) roots → All (IsRootIn new) roots × (pairs_under new roots ≡ pairs_under old roots) × (size_under new roots ≡ size_under old roots)
    roots_kept [] each others = (All-nil (IsRootIn new), refl, refl)
    roots_kept (root ∷ roots) each others =
        let r = All-head (IsRootIn old) root roots each in
        let other = All-head (λ r. r.key ≢ root_key eid) root roots others in
        let rest = roots_kept roots (All-tail (IsRootIn old) root roots each) (All-tail (λ r. r.key ≢ root_key eid) root roots others) in (
          All-cons (IsRootIn new) root roots (root_kept root r other) rest.0,
          ap (λ t. pairs t ++ pairs_under new roots) (root_stays root r other) ∙ ap (λ l. pairs (tree_of old (Some root.name)) ++ l) rest.1,
          ap (λ t. size t + size_under new roots) (root_stays root r other) ∙ ap (λ n. size (tree_of old (Some root.name)) + n) rest.2,
        )

    root_made : (root : Root) → root.key ≡ root_key eid → at ≡ Some root.name → (tree_of new (Some root.name) ≡ g.tree) × IsRootIn new root
    root_made root key_is name_is =
        let named : name_of g.tree ≡ Some root.name = g.named ∙ name_is in
        let here : tree_of new (Some root.name) ≡ g.tree = tree_of-spelled new g.tree (Some root.name) eid.iid (key_width eid) 0 named g.spelled g.trie in
        let small : key_width eid < 256 = omega (arith, width-most eid.prefix.addr) in
        let iid : eid.iid ≡ root.key / 256 = sym (ap (λ n. n / 256) key_is ∙ div-mul-add eid.iid 256 (key_width eid) small) in
        let wide : key_width eid ≡ root.key % 256 = sym (ap (λ n. n % 256) key_is ∙ mod-mul-add eid.iid 256 (key_width eid) small) in
        let made : IsRoot new (Some root.name) eid.iid (key_width eid) = record {
          named = ap name_of here ∙ named;
          spelled = subst (λ (t : Tree V). Spells new t) (sym here) g.spelled;
          trie = subst (λ (t : Tree V). IsTrie eid.iid (key_width eid) 0 0 t) (sym here) g.trie;
        } in
        (here, subst (λ (i : ℕ). IsRoot new (Some root.name) i (root.key % 256)) iid (subst (λ (w : ℕ). IsRoot new (Some root.name) eid.iid w) wide made))

    -- the roots are those around the EID's
    module _ (front back : List Root) (in_front : All (IsRootIn old) front) (in_back : All (IsRootIn old) back) (lower : All (λ r. r.key < root_key eid) front) (upper : All (λ r. root_key eid < r.key) back) where
      front_kept : All (IsRootIn new) front × (pairs_under new front ≡ pairs_under old front) × (size_under new front ≡ size_under old front)
      front_kept = roots_kept front in_front (All-weaker (λ r. r.key < root_key eid) (λ r. r.key ≢ root_key eid) (λ r less same. absurd (omega (arith, less, same))) front lower)

      back_kept : All (IsRootIn new) back × (pairs_under new back ≡ pairs_under old back) × (size_under new back ≡ size_under old back)
      back_kept = roots_kept back in_back (All-weaker (λ r. root_key eid < r.key) (λ r. r.key ≢ root_key eid) (λ r more same. absurd (omega (arith, more, same))) back upper)

      -- it has a root
      pub forest_edited : (root : Root) → root.key ≡ root_key eid → at ≡ Some root.name → ForestEdited old new front back (front ++ (root ∷ back)) tree g.tree
      forest_edited root key_is name_is =
          let made = root_made root key_is name_is in
          let here = tree_of new (Some root.name) in
          let sizes = size_under-append new front (root ∷ back) in
          let same_size : size here ≡ size g.tree = ap size made.0 in
          record {
            each = All-append (IsRootIn new) front (root ∷ back) front_kept.0 (All-cons (IsRootIn new) root back made.1 back_kept.0);
            pairs =
                pairs_under-append new front (root ∷ back)
                ∙ ap (λ l. l ++ (pairs here ++ pairs_under new back)) front_kept.1
                ∙ ap (λ l. pairs_under old front ++ (pairs here ++ l)) back_kept.1
                ∙ ap (λ t. pairs_under old front ++ (pairs t ++ pairs_under old back)) made.0;
            rooms = omega (arith, sizes, same_size, front_kept.2, back_kept.2, g.rooms);
          }

      -- nothing is left, and its root goes
      pub forest_gone : at ≡ None → ForestEdited old new front back (front ++ back) tree g.tree
      forest_gone is =
          let nothing : g.tree ≡ none = nothing_named g.tree (g.named ∙ is) in
          let sizes = size_under-append new front back in
          let same_size : size g.tree ≡ 0 = ap size nothing in
          record {
            each = All-append (IsRootIn new) front back front_kept.0 back_kept.0;
            pairs =
                pairs_under-append new front back
                ∙ ap (λ l. l ++ pairs_under new back) front_kept.1
                ∙ ap (λ l. pairs_under old front ++ l) back_kept.1
                ∙ ap (λ t. pairs_under old front ++ (pairs t ++ pairs_under old back)) (sym nothing);
            rooms = omega (arith, sizes, same_size, front_kept.2, back_kept.2, g.rooms);
          }
