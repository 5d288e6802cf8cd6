-- The pairs ascend, and so each EID has one value.
use Rattle.std.proofs.Common.{◌≡◌, ◌≢◌, ℕ, zero, suc, ◌+◌, ◌/◌, ◌%◌, ◌<◌, Bool, true, false, List, [], ◌∷◌, ◌++◌, length, get_or, All, Contains, Some, None, refl, sym, ap, ◌∙◌, arith}
use Rattle.std.proofs.lemmas.List.Elements.{All-append, All-head, All-tail, All-weaker, All-from_get_or}
use Rattle.std.proofs.lemmas.List.Kept.{AllPairs-cons}
use Rattle.mapping_records.specs.declared.eid.Eid.{Eid}
use Rattle.node_store.specs.Store.{Store}
use Rattle.prefix_table.specs.declared.node.Node.{Node}
use Rattle.prefix_table.specs.declared.node.Root.{Root}
use Rattle.prefix_table.specs.Keys.{key_len}
use Rattle.prefix_table.specs.Tree.{Tree, pairs, Fits, IsTrie, side_bits}
use Rattle.prefix_table.specs.Tree.Tree.{none, node}
use Rattle.prefix_table.specs.Spelled.{tree_of}
use Rattle.prefix_table.specs.Pairs.{is_below, Ascends, value_in}
use Rattle.prefix_table.specs.Roots.{Rises}
use Rattle.prefix_table.specs.Table.{root_key, pairs_under, IsRootIn, IsForest}
use Rattle.mapping_records.specs.Eids.{covers_eid}
use Rattle.prefix_table.specs.Longest.{IsRefused, IsLongestWhere}
use Rattle.prefix_table.proofs.Bits.{covers_parts, covers_from, below_covers}
use Rattle.prefix_table.proofs.LongestLemmas.{All-pairs, each_fits}
use Rattle.prefix_table.proofs.OrderLemmas.{Same, IsAfter, Lt-covers, Lt-bits, covers-Same, value_in-missing}
use Rattle.prefix_table.proofs.TopLemmas.{same_self}
use Rattle.prefix_table.proofs.PutLemmas.{same_key}
use Rattle.prefix_table.proofs.ForestLemmas.{under_after, fits_key}

module _ {V : Type 0} where
  abbrev Below : Eid × V → Eid × V → Type 0
  Below a b = is_below a.0 b.0 ≡ true

  -- each pair is below all that follow
  abbrev Rising : List (Eid × V) → Type 0
  Rising [] = Unit {0}
  Rising (pair ∷ rest) = All (Below pair) rest × Rising rest

  Rising-append : (xs ys : List (Eid × V)) → Rising xs → Rising ys → All (λ x. All (Below x) ys) xs → Rising (xs ++ ys)
  Rising-append [] ys in_xs in_ys cross = in_ys
  Rising-append (x ∷ xs) ys in_xs in_ys cross = (
    All-append (Below x) xs ys in_xs.0 (All-head (λ x. All (Below x) ys) x xs cross),
    Rising-append xs ys in_xs.1 in_ys (All-tail (λ x. All (Below x) ys) x xs cross),
  )

  Ascends-from : (l : List (Eid × V)) → Rising l → Ascends l
  Ascends-from [] rising = λ i j d less within. absurd (omega (arith, within))
  Ascends-from (x ∷ l) rising = AllPairs-cons Below x l rising.0 (Ascends-from l rising.1)

  -- the pairs below a node
  sides_rise : (low high : Tree V) (key : Eid) (iid width : ℕ) → IsTrie iid width (side_bits key 0) (key_len key + 1) low → IsTrie iid width (side_bits key 1) (key_len key + 1) high → Rising (pairs low) → Rising (pairs high) → Rising (pairs low ++ pairs high)
  sides_rise low high key iid width trie_low trie_high in_low in_high =
      Rising-append (pairs low) (pairs high) in_low in_high
      (All-pairs (λ x. All (Below x) (pairs high)) low (each_fits (λ x. All (Below x) (pairs high)) low iid width (side_bits key 0) (key_len key + 1) trie_low (λ k v fits.
      All-pairs (Below (k, v)) high (each_fits (Below (k, v)) high iid width (side_bits key 1) (key_len key + 1) trie_high (λ m w other.
      (Lt-bits k m (key_len key + 1) (fits.same_iid ∙ sym other.same_iid) (fits.same_width ∙ sym other.same_width) (omega (arith, fits.front, other.front))).below)))))

  tree_rises : (tree : Tree V) (iid width bits len : ℕ) → IsTrie iid width bits len tree → Rising (pairs tree)
  tree_rises none iid width bits len trie = tt
  tree_rises (node name key None low high) iid width bits len trie =
      sides_rise low high key iid width trie.1 trie.2 (tree_rises low iid width (side_bits key 0) (key_len key + 1) trie.1) (tree_rises high iid width (side_bits key 1) (key_len key + 1) trie.2)
  tree_rises (node name key (Some value) low high) iid width bits len trie =
      let below = λ (k : Eid) (side : ℕ) (bit : side < 2) (fits : Fits iid width (side_bits key side) (key_len key + 1) k).
      (Lt-covers key k (below_covers key k iid width side bit (trie.0).same_iid (trie.0).same_width fits) (omega (arith, fits.longer))).below in (
        All-append (Below (key, value)) (pairs low) (pairs high)
            (All-pairs (Below (key, value)) low (each_fits (Below (key, value)) low iid width (side_bits key 0) (key_len key + 1) trie.1 (λ k v fits. below k 0 (omega arith) fits)))
            (All-pairs (Below (key, value)) high (each_fits (Below (key, value)) high iid width (side_bits key 1) (key_len key + 1) trie.2 (λ k v fits. below k 1 (omega arith) fits))),
        sides_rise low high key iid width trie.1 trie.2 (tree_rises low iid width (side_bits key 0) (key_len key + 1) trie.1) (tree_rises high iid width (side_bits key 1) (key_len key + 1) trie.2),
      )

  under_rises : (store : Store (Node V)) (roots : List Root) → All (IsRootIn store) roots → Rises roots → Rising (pairs_under store roots)
  under_rises store [] each rises = tt
  under_rises store (root ∷ roots) each rises =
      let r = All-head (IsRootIn store) root roots each in
      let others = All-tail (IsRootIn store) root roots each in
      let tree = tree_of store (Some root.name) in
      Rising-append (pairs tree) (pairs_under store roots)
      (tree_rises tree (root.key / 256) (root.key % 256) 0 0 r.trie)
      (under_rises store roots others (λ i j less in_range. rises (suc i) (suc j) (omega arith) (omega arith)))
      (All-pairs (λ x. All (Below x) (pairs_under store roots)) tree (each_fits (λ x. All (Below x) (pairs_under store roots)) tree (root.key / 256) (root.key % 256) 0 0 r.trie (λ k v fits.
      let here = fits_key root k fits in
      let upper : All (λ r. root_key k < r.key) roots = All-from_get_or (λ r. root_key k < r.key) roots (record { key = 0; name = 0 }) (λ j in_range.
      let above = rises 0 (suc j) (omega arith) (omega (arith, in_range)) in
      omega (arith, above, here)) in
      All-weaker (IsAfter k) (Below (k, v)) (λ pair lt. lt.below) (pairs_under store roots) (under_after store roots k others upper))))

  pub forest_ascends : (store : Store (Node V)) (roots : List Root) → IsForest store roots → Ascends (pairs_under store roots)
  forest_ascends store roots forest = Ascends-from (pairs_under store roots) (under_rises store roots forest.each forest.rise)

  -- an EID that is there has its value
  value_at : (eid : Eid) (value : V) (l : List (Eid × V)) (k : ℕ) → Rising l → k < length l → get_or l k (eid, value) ≡ (eid, value) → value_in eid l ≡ Some value
  value_at eid value [] k rising within found = absurd (omega (arith, within))
  value_at eid value ((key, old) ∷ l) zero rising within found =
      let key_is : key ≡ eid = ap (λ (p : Eid × V). p.0) found in
      let old_is : old ≡ value = ap (λ (p : Eid × V). p.1) found in
      let s = same_self eid in
      rw (key_is, s.not_below) (ap (λ v. Some v) old_is)
  value_at eid value ((key, old) ∷ l) (suc k) rising within found =
      let inside : k < length l = omega (arith, within) in
      let below : is_below key eid ≡ true = ap (λ (p : Eid × V). is_below key p.0) (sym found) ∙ read (Below (key, old)) l k rising.0 inside in
      rw below (value_at eid value l k rising.1 inside found)
    where
      read : (P : Eid × V → Type 0) (l : List (Eid × V)) (k : ℕ) → All P l → k < length l → P (get_or l k (eid, value))
      read P [] k all within = absurd (omega (arith, within))
      read P (x ∷ l) zero all within = All-head P x l all
      read P (x ∷ l) (suc k) all within = read P l k (All-tail P x l all) (omega (arith, within))

  pub value_in-there : (store : Store (Node V)) (roots : List Root) (eid : Eid) (value : V) → IsForest store roots → Contains (pairs_under store roots) (eid, value) → value_in eid (pairs_under store roots) ≡ Some value
  value_in-there store roots eid value forest there =
      value_at eid value (pairs_under store roots) there.0 (under_rises store roots forest.each forest.rise) there.1 there.2

  -- and one that isn't has none
  pub value_in-absent : (eid : Eid) (l : List (Eid × V)) → All (λ pair. pair.0 ≢ eid) l → value_in eid l ≡ None
  value_in-absent eid l absent =
      value_in-missing eid l (All-weaker (λ pair. pair.0 ≢ eid) (λ pair. Same pair.0 eid → ⊥) (λ pair other same.
      let c = covers-Same pair.0 eid same in
      let back = covers-Same eid pair.0 (record { not_below = same.not_above; not_above = same.not_below }) in
      other (same_key pair.0 eid c (omega (arith, c.shorter, back.shorter)))) l absent)

  -- nor has one that is no longest match, where every value passes
  pub absent_longer : (answers : V → Bool → Type 0) (eid : Eid) (l : List (Eid × V)) (pair : Eid × V) → IsLongestWhere answers eid l pair → (key_len pair.0 ≡ key_len eid → ⊥) → ((v : V) → answers v false → ⊥) → value_in eid l ≡ None
  absent_longer answers eid l pair found differs never =
      let c = covers_parts pair.0 eid found.covers in
      let itself : covers_eid eid eid ≡ true = covers_from eid eid (record { same_iid = refl; same_width = refl; shorter = omega arith; front = refl }) in
      value_in-absent eid l (All-weaker (λ other. key_len pair.0 < key_len other.0 → IsRefused answers eid other) (λ other. other.0 ≢ eid) (λ other refuses same.
      let longer : key_len pair.0 < key_len other.0 = omega (arith, ap key_len same, c.shorter, differs) in
      never other.1 (refuses longer (ap (λ e. covers_eid e eid) same ∙ itself))) l found.longest)
