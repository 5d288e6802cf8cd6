-- Names in a stack, and what a step does to the pairs under them.
use Rattle.std.proofs.Common.{◌≡◌, ℕ, zero, suc, ◌+◌, ◌<◌, ◌≤◌, List, [], ◌∷◌, ◌++◌, length, Option, Some, None, IfSome, IsSome, refl, sym, ap, ap₂, subst, ◌∙◌, zero-add, arith}
use Rattle.std.proofs.lemmas.List.{append_assoc, append-nil, length-append}
use Rattle.std.proofs.lemmas.Option.{same_Some}
use Rattle.node_store.specs.Store.{Store, node_at, IsLive}
use Rattle.prefix_table.specs.declared.node.Node.{Node}
use Rattle.prefix_table.specs.declared.node.Root.{Root}
use Rattle.prefix_table.specs.Keys.{key_len}
use Rattle.prefix_table.specs.Tree.{Tree, pair_of, pairs, size, side_bits, IsTrie}
use Rattle.prefix_table.specs.Tree.Tree.{none, node}
use Rattle.prefix_table.specs.Spelled.{name_of, tree_of, tree_within, grown, Spells}
use Rattle.prefix_table.specs.Stacked.{given, stacked, IsLong, IsUnder, AreUnder}
use Rattle.prefix_table.specs.Table.{pairs_under, IsRootIn}
use Rattle.prefix_table.proofs.SearchLemmas.{key_len-most}

length-given : (names : List ℕ) (at : Option ℕ) → length (names ++ given at) ≤ length names + 1
length-given names None = omega (arith, ap length (append-nil names))
length-given names (Some name) = omega (arith, length-append names (name ∷ []))

-- the tree under a name, whose node this is
record Opened {V : Type 0} (store : Store (Node V)) (rest : Tree V) (name : ℕ) (top : Node V) : Type 0 where
  pub low : Tree V
  pub high : Tree V
  pub is : rest ≡ node name top.eid top.value low high
  pub low_named : name_of low ≡ top.next.zero
  pub high_named : name_of high ≡ top.next.one
  pub low_spelled : Spells store low
  pub high_spelled : Spells store high

opened : {V : Type 0} (store : Store (Node V)) (rest : Tree V) (name : ℕ) (top : Node V) → name_of rest ≡ Some name → Spells store rest → node_at store name ≡ Some top → Opened store rest name top
opened store none name top named spelled found = absurd (cc (named))
opened {V} store (node other key value low high) name top named spelled found =
    let here : other ≡ name = same_Some other name named in
    let made : Node V = record { eid = key; value = value; next = record { zero = name_of low; one = name_of high } } in
    let same : made ≡ top = same_Some made top (sym spelled.0 ∙ ap (node_at store) here ∙ found) in
    subst (λ (t : Node V). Opened store (node other key value low high) name t) same (record {
      low = low;
      high = high;
      is = ap (λ n. node n key value low high) here;
      low_named = refl;
      high_named = refl;
      low_spelled = spelled.1;
      high_spelled = spelled.2;
    })

module _ {V : Type 0} where
  -- the keys of a trie are no shorter than its least length
  pub IsLong-trie : (tree : Tree V) (iid width bits len : ℕ) → IsTrie iid width bits len tree → IsLong len tree
  IsLong-trie none iid width bits len trie = tt
  IsLong-trie (node name key value low high) iid width bits len trie = (
    (trie.0).longer,
    IsLong-trie low iid width (side_bits key 0) (key_len key + 1) trie.1,
    IsLong-trie high iid width (side_bits key 1) (key_len key + 1) trie.2,
  )

  IsLong-less : (tree : Tree V) (less least : ℕ) → less ≤ least → IsLong least tree → IsLong less tree
  IsLong-less none less least within long = tt
  IsLong-less (node name key value low high) less least within long = (omega (arith, within, long.0), long.1, long.2)

  -- what a name spells is the tree under it
  within-long : (depth : ℕ) (store : Store (Node V)) (tree : Tree V) (len : ℕ) → Spells store tree → IsLong len tree → 130 ≤ depth + len → tree_within depth store (name_of tree) ≡ tree
  unfolding tree_within
  within-long zero store none len spelled long deep = refl
  within-long (suc depth) store none len spelled long deep = refl
  within-long zero store (node name key value low high) len spelled long deep =
      absurd (omega (arith, deep, long.0, key_len-most key))
  within-long (suc depth) store (node name key value low high) len spelled long deep =
      ap (grown (tree_within depth store) name) spelled.0
      ∙ ap (λ l. node name key value l (tree_within depth store (name_of high))) (within-long depth store low (key_len key + 1) spelled.1 long.1 (omega (arith, deep, long.0)))
      ∙ ap (λ h. node name key value low h) (within-long depth store high (key_len key + 1) spelled.2 long.2 (omega (arith, deep, long.0)))

  pub tree_of-long : (store : Store (Node V)) (tree : Tree V) (at : Option ℕ) (len : ℕ) → name_of tree ≡ at → Spells store tree → IsLong len tree → tree_of store at ≡ tree
  unfolding tree_of
  tree_of-long store tree at len named spelled long =
      ap (tree_within 130 store) (sym named) ∙ within-long 130 store tree len spelled long (omega arith)

  -- a tree with a name is under it
  under-tree : (store : Store (Node V)) (tree : Tree V) (at : Option ℕ) (len : ℕ) → name_of tree ≡ at → Spells store tree → IsLong len tree → IfSome at (IsUnder store len)
  under-tree store tree None len named spelled long = tt
  under-tree store tree (Some name) len named spelled long =
      let same = tree_of-long store tree (Some name) len named spelled long in
      record {
        named = ap name_of same ∙ named;
        spelled = subst (Spells store) (sym same) spelled;
        long = subst (IsLong len) (sym same) long;
      }

  pub IsUnder-less : (store : Store (Node V)) (less least : ℕ) (at : Option ℕ) → less ≤ least → IfSome at (IsUnder store least) → IfSome at (IsUnder store less)
  IsUnder-less store less least None within under = tt
  IsUnder-less store less least (Some name) within under = record {
    named = under.named;
    spelled = under.spelled;
    long = IsLong-less (tree_of store (Some name)) less least within under.long;
  }

  pub under-root : (store : Store (Node V)) (root : Root) → IsRootIn store root → IsUnder store 0 root.name
  under-root store root r = record {
    named = r.named;
    spelled = r.spelled;
    long = IsLong-trie (tree_of store (Some root.name)) _ _ _ 0 r.trie;
  }

  -- a node under a name, and what is under it
  pub record Steps (store : Store (Node V)) (least name : ℕ) (top : Node V) : Type 0 where
    pub pairs_are : pairs (tree_of store (Some name)) ≡ pair_of top.eid top.value ++ (pairs (tree_of store top.next.zero) ++ pairs (tree_of store top.next.one))
    pub nodes : size (tree_of store (Some name)) ≡ 1 + size (tree_of store top.next.zero) + size (tree_of store top.next.one)
    pub zero_under : IfSome top.next.zero (IsUnder store (least + 1))
    pub one_under : IfSome top.next.one (IsUnder store (least + 1))

  pub steps : (store : Store (Node V)) (least name : ℕ) (top : Node V) → IsUnder store least name → node_at store name ≡ Some top → Steps store least name top
  steps store least name top under found =
      let o = opened store (tree_of store (Some name)) name top under.named under.spelled found in
      let long = subst (IsLong least) o.is under.long in
      let low = tree_of-long store o.low top.next.zero (key_len top.eid + 1) o.low_named o.low_spelled long.1 in
      let high = tree_of-long store o.high top.next.one (key_len top.eid + 1) o.high_named o.high_spelled long.2 in
      let whole : tree_of store (Some name) ≡ node name top.eid top.value (tree_of store top.next.zero) (tree_of store top.next.one) = o.is ∙ ap₂ (node name top.eid top.value) (sym low) (sym high) in
      let within : least + 1 ≤ key_len top.eid + 1 = omega (arith, long.0) in
      record {
        pairs_are = ap pairs whole;
        nodes = ap size whole;
        zero_under = IsUnder-less store (least + 1) (key_len top.eid + 1) top.next.zero within (under-tree store o.low top.next.zero (key_len top.eid + 1) o.low_named o.low_spelled long.1);
        one_under = IsUnder-less store (least + 1) (key_len top.eid + 1) top.next.one within (under-tree store o.high top.next.one (key_len top.eid + 1) o.high_named o.high_spelled long.2);
      }

  -- the node is there
  pub under-live : (store : Store (Node V)) (least name : ℕ) → IsUnder store least name → IsLive store name
  under-live store least name under = live (tree_of store (Some name)) under.named under.spelled
    where
      live : (tree : Tree V) → name_of tree ≡ Some name → Spells store tree → IsLive store name
      live none named spelled = absurd (cc named)
      live (node other key value low high) named spelled = subst (IsLive store) (same_Some other name named) (rw spelled.0 refl)

  -- a name is at no greater a place than keys are long
  pub under-most : (store : Store (Node V)) (least : ℕ) (at : Option ℕ) → IfSome at (IsUnder store least) → IsSome at → least ≤ 128
  under-most store least None under some = absurd (cc some)
  under-most store least (Some name) under some = most (tree_of store (Some name)) under.named under.long
    where
      most : (tree : Tree V) → name_of tree ≡ Some name → IsLong least tree → least ≤ 128
      most none named long = absurd (cc named)
      most (node other key value low high) named long = omega (arith, long.0, key_len-most key)

  -- ### names behind others

  -- nothing is under no name
  none-under : (store : Store (Node V)) → tree_of store None ≡ none
  unfolding tree_of tree_within
  none-under store = refl

  -- the number of nodes under names
  abbrev pub nodes_under : Store (Node V) → List ℕ → ℕ
  nodes_under store [] = 0
  nodes_under store (name ∷ names) = size (tree_of store (Some name)) + nodes_under store names

  stacked-one : (store : Store (Node V)) (names : List ℕ) (name : ℕ) → stacked store (names ++ name ∷ []) ≡ pairs (tree_of store (Some name)) ++ stacked store names
  stacked-one store [] name = sym (append-nil (pairs (tree_of store (Some name))))
  stacked-one store (first ∷ names) name =
      ap (λ l. l ++ pairs (tree_of store (Some first))) (stacked-one store names name)
      ∙ append_assoc (pairs (tree_of store (Some name))) (stacked store names) (pairs (tree_of store (Some first)))

  pub stacked-given : (store : Store (Node V)) (names : List ℕ) (at : Option ℕ) → stacked store (names ++ given at) ≡ pairs (tree_of store at) ++ stacked store names
  stacked-given store names None =
      ap (stacked store) (append-nil names) ∙ ap (λ t. pairs t ++ stacked store names) (sym (none-under store))
  stacked-given store names (Some name) = stacked-one store names name

  nodes-one : (store : Store (Node V)) (names : List ℕ) (name : ℕ) → nodes_under store (names ++ name ∷ []) ≡ nodes_under store names + size (tree_of store (Some name))
  nodes-one store [] name = omega arith
  nodes-one store (first ∷ names) name = let rest = nodes-one store names name in omega (arith, rest)

  pub nodes-given : (store : Store (Node V)) (names : List ℕ) (at : Option ℕ) → nodes_under store (names ++ given at) ≡ nodes_under store names + size (tree_of store at)
  nodes-given store names None =
      ap (nodes_under store) (append-nil names) ∙ omega (arith, ap size (none-under store))
  nodes-given store names (Some name) = nodes-one store names name

  pub under-given : (store : Store (Node V)) (least : ℕ) (names : List ℕ) (at : Option ℕ) → AreUnder store least names → IfSome at (IsUnder store (least + length names)) → AreUnder store least (names ++ given at)
  under-given store least [] None all last = tt
  under-given store least [] (Some name) all last = (subst (λ n. IsUnder store n name) (omega arith) last, tt)
  under-given store least (first ∷ names) at all last =
      (all.0, under-given store (least + 1) names at all.1 (subst (λ n. IfSome at (IsUnder store n)) (omega arith) last))

  pub under-split : (store : Store (Node V)) (least : ℕ) (names : List ℕ) (name : ℕ) → AreUnder store least (names ++ name ∷ []) → AreUnder store least names × IsUnder store (least + length names) name
  under-split store least [] name all = (tt, subst (λ n. IsUnder store n name) (omega arith) all.0)
  under-split store least (first ∷ names) name all =
      let rest = under-split store (least + 1) names name all.1 in
      ((all.0, rest.0), subst (λ n. IsUnder store n name) (omega arith) rest.1)

  -- ### a step: the last name is taken, and those below its node come in its place

  pub record IsStep (store : Store (Node V)) (before names middle after : List ℕ) (top : Node V) : Type 0 where
    pub one_fits : IsSome top.next.one → length names < 129
    pub zero_fits : IsSome top.next.zero → length middle < 129
    pub under : AreUnder store 0 after
    pub pairs_are : stacked store before ≡ pair_of top.eid top.value ++ stacked store after
    pub fewer : nodes_under store after < nodes_under store before

  pub step : (store : Store (Node V)) (before names middle after : List ℕ) (name : ℕ) (top : Node V) → AreUnder store 0 before → before ≡ names ++ name ∷ [] → node_at store name ≡ Some top → middle ≡ names ++ given top.next.one → after ≡ middle ++ given top.next.zero → IsStep store before names middle after top
  step store before names middle after name top all is found ones zeros =
      let split = under-split store 0 names name (subst (AreUnder store 0) is all) in
      let here = subst (λ n. IsUnder store n name) (zero-add (length names)) split.1 in
      let s = steps store (length names) name top here found in
      let few : length middle ≤ length names + 1 = omega (arith, ap length ones, length-given names top.next.one) in
      let mid : AreUnder store 0 middle = subst (AreUnder store 0) (sym ones) (under-given store 0 names top.next.one split.0 (IsUnder-less store (0 + length names) (length names + 1) top.next.one (omega arith) s.one_under)) in
      record {
        one_fits = λ some. let most = under-most store (length names + 1) top.next.one s.one_under some in omega (arith, most);
        zero_fits = λ some. let most = under-most store (length names + 1) top.next.zero s.zero_under some in omega (arith, most, few);
        under = subst (AreUnder store 0) (sym zeros) (under-given store 0 middle top.next.zero mid (IsUnder-less store (0 + length middle) (length names + 1) top.next.zero (omega (arith, few)) s.zero_under));
        pairs_are =
            ap (stacked store) is
            ∙ stacked-one store names name
            ∙ ap (λ l. l ++ stacked store names) s.pairs_are
            ∙ append_assoc (pair_of top.eid top.value) (pairs (tree_of store top.next.zero) ++ pairs (tree_of store top.next.one)) (stacked store names)
            ∙ ap (λ l. pair_of top.eid top.value ++ l) (
            append_assoc (pairs (tree_of store top.next.zero)) (pairs (tree_of store top.next.one)) (stacked store names)
            ∙ ap (λ l. pairs (tree_of store top.next.zero) ++ l) (sym (ap (stacked store) ones ∙ stacked-given store names top.next.one))
            ∙ sym (ap (stacked store) zeros ∙ stacked-given store middle top.next.zero)
            );
        fewer =
            omega (arith, ap (nodes_under store) is, nodes-one store names name, s.nodes, ap (nodes_under store) ones, nodes-given store names top.next.one, ap (nodes_under store) zeros, nodes-given store middle top.next.zero);
      }

  -- ### a step to the next root

  module _ (store : Store (Node V)) (names after : List ℕ) (root : Root) (empty : names ≡ []) (is : after ≡ names ++ root.name ∷ []) where
    one-name : after ≡ root.name ∷ []
    one-name = is ∙ ap (λ l. l ++ root.name ∷ []) empty

    -- where there are no names, the pairs under the first root come next
    pub root-first : (others : List Root) → stacked store names ++ pairs_under store (root ∷ others) ≡ stacked store after ++ pairs_under store others
    root-first others =
        ap (λ l. stacked store l ++ pairs_under store (root ∷ others)) empty ∙ sym (ap (λ l. stacked store l ++ pairs_under store others) one-name)

    pub root-under : IsRootIn store root → AreUnder store 0 after
    root-under r = subst (AreUnder store 0) (sym one-name) (under-root store root r, tt)
