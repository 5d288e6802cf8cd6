-- The pairs under all roots.
use Rattle.std.proofs.Common.{◌≡◌, ◌≢◌, ℕ, zero, suc, ◌/◌, ◌%◌, ◌<◌, Bool, true, List, [], ◌∷◌, ◌++◌, length, get_or, set, All, MatchOption, Option, Some, None, inl, inr, refl, sym, ap, ◌∙◌, arith, subst}
use Rattle.std.specs.List.{remove}
use Rattle.std.proofs.lemmas.List.{append_assoc}
use Rattle.std.proofs.lemmas.List.Elements.{All-nil, All-cons, All-append, All-head, All-tail, All-weaker, All-from_get_or, Contains-append_left, Contains-append_right}
use native.Mathlib.Nat.{div-add-mod}
use Rattle.std.proofs.lemmas.Bool.{cases_lt}
use Rattle.std.proofs.lemmas.Nat.{div-mul-add, mod-mul-add}
use Rattle.mapping_records.specs.declared.eid.Eid.{Eid}
use Rattle.node_store.specs.Store.{Store}
use Rattle.prefix_table.specs.declared.node.Node.{Node}
use Rattle.prefix_table.specs.declared.node.Root.{Root}
use Rattle.mapping_records.specs.Eids.{covers_eid}
use Rattle.prefix_table.specs.Keys.{key_width, key_len}
use Rattle.prefix_table.specs.Tree.{pairs}
use Rattle.prefix_table.specs.Longest.{IsRefused, IsLongestWhere}
use Rattle.prefix_table.specs.Spelled.{tree_of, IsRoot}
use Rattle.prefix_table.specs.Roots.{Rises, IsAt, IsGapFor}
use Rattle.prefix_table.specs.Table.{root_key, pairs_under, IsRootIn, IsTable}
use Rattle.prefix_table.proofs.Bits.{covers_parts}
use Rattle.prefix_table.proofs.LongestLemmas.{All-pairs, each_fits}
use Rattle.prefix_table.proofs.SearchLemmas.{width-most}

pub All-split : {X : Type 0} (P : X → Type 0) (xs ys : List X) → All P (xs ++ ys) → All P xs × All P ys
All-split P [] ys all = (All-nil P, all)
All-split P (x ∷ xs) ys all =
    let rest = All-split P xs ys (All-tail P x (xs ++ ys) all) in
    (All-cons P x xs (All-head P x (xs ++ ys) all) rest.0, rest.1)

pub get_or_same : (l : List Root) (i : ℕ) (d e : Root) → i < length l → get_or l i d ≡ get_or l i e
get_or_same [] i d e in_range = absurd (omega (arith, in_range))
get_or_same (x ∷ l) zero d e in_range = refl
get_or_same (x ∷ l) (suc i) d e in_range = get_or_same l i d e (omega (arith, in_range))

-- roots in order, cut at the place of one
pub record Cut (roots : List Root) (key at : ℕ) : Type 0 where
  pub front : List Root
  pub root : Root
  pub back : List Root
  pub is : roots ≡ front ++ (root ∷ back)
  pub set_is : (r : Root) → set roots at r ≡ front ++ (r ∷ back)
  pub remove_is : remove roots at ≡ front ++ back
  pub here : root ≡ get_or roots at root
  pub has_key : root.key ≡ key
  pub lower : All (λ r. r.key < key) front
  pub upper : All (λ r. key < r.key) back

cut_more : (root : Root) (roots : List Root) (key at : ℕ) → Rises (root ∷ roots) → suc at < length (root ∷ roots) → Cut roots key at → root.key < key → Cut (root ∷ roots) key (suc at)
cut_more root roots key at rises in_range rest below = record {
  front = root ∷ rest.front;
  root = rest.root;
  back = rest.back;
  is = ap (λ l. root ∷ l) rest.is;
  set_is = λ r. ap (λ l. root ∷ l) (rest.set_is r);
  remove_is = ap (λ l. root ∷ l) rest.remove_is;
  here = rest.here;
  has_key = rest.has_key;
  lower = All-cons (λ r. r.key < key) root rest.front below rest.lower;
  upper = rest.upper;
}

pub cut_at : (roots : List Root) (key at : ℕ) → Rises roots → IsAt roots key at → Cut roots key at
cut_at [] key at rises found = absurd (omega (arith, found.in_range))
cut_at (root ∷ roots) key zero rises found = record {
  front = [];
  root = root;
  back = roots;
  is = refl;
  set_is = λ r. refl;
  remove_is = refl;
  here = refl;
  has_key = found.has_key;
  lower = All-nil (λ r. r.key < key);
  upper = All-from_get_or (λ r. key < r.key) roots (record { key = 0; name = 0 }) (λ j in_range.
      let above = rises 0 (suc j) (omega arith) (omega (arith, in_range)) in
      omega (arith, above, found.has_key));
}
cut_at (root ∷ roots) key (suc at) rises found =
    let rest = cut_at roots key at (λ i j less in_range. rises (suc i) (suc j) (omega arith) (omega arith)) (record { in_range = omega (arith, found.in_range); has_key = found.has_key }) in
    let below = rises 0 (suc at) (omega arith) (omega (arith, found.in_range)) in
    cut_more root roots key at rises found.in_range rest (omega (arith, below, found.has_key))

module _ {V : Type 0} where
  pub pairs_under-append : (store : Store (Node V)) (front back : List Root) → pairs_under store (front ++ back) ≡ pairs_under store front ++ pairs_under store back
  pairs_under-append store [] back = refl
  pairs_under-append store (root ∷ front) back =
      ap (λ l. pairs (tree_of store (Some root.name)) ++ l) (pairs_under-append store front back) ∙ sym (append_assoc (pairs (tree_of store (Some root.name))) (pairs_under store front) (pairs_under store back))

  -- no key under the roots of other instances and families covers an EID
  pub others_miss : (store : Store (Node V)) (roots : List Root) (eid : Eid) → All (IsRootIn store) roots → All (λ r. r.key ≢ root_key eid) roots → All (λ pair. covers_eid pair.0 eid ≡ true → ⊥) (pairs_under store roots)
  others_miss store [] eid each others = All-nil (λ pair. covers_eid pair.0 eid ≡ true → ⊥)
  others_miss store (root ∷ roots) eid each others =
      let r = All-head (IsRootIn store) root roots each in
      let other = All-head (λ r. r.key ≢ root_key eid) root roots others in
      All-append (λ pair. covers_eid pair.0 eid ≡ true → ⊥) (pairs (tree_of store (Some root.name))) (pairs_under store roots)
      (All-pairs (λ pair. covers_eid pair.0 eid ≡ true → ⊥) (tree_of store (Some root.name)) (
      each_fits (λ pair. covers_eid pair.0 eid ≡ true → ⊥) (tree_of store (Some root.name)) (root.key / 256) (root.key % 256) 0 0 r.trie (λ k v fits covers.
      let c = covers_parts k eid covers in
      other (omega (arith, fits.same_iid, fits.same_width, c.same_iid, c.same_width, div-add-mod root.key 256)))
      ))
      (others_miss store roots eid (All-tail (IsRootIn store) root roots each) (All-tail (λ r. r.key ≢ root_key eid) root roots others))

  pub root_of : (store : Store (Node V)) (root : Root) (eid : Eid) → IsRootIn store root → root.key ≡ root_key eid → IsRoot store (Some root.name) eid.iid (key_width eid)
  root_of store root eid r same =
      let small : key_width eid < 256 = omega (arith, width-most eid.prefix.addr) in
      let iid : root.key / 256 ≡ eid.iid = ap (λ n. n / 256) same ∙ div-mul-add eid.iid 256 (key_width eid) small in
      let wide : root.key % 256 ≡ key_width eid = ap (λ n. n % 256) same ∙ mod-mul-add eid.iid 256 (key_width eid) small in
      subst (λ (i : ℕ). IsRoot store (Some root.name) i (key_width eid)) iid (subst (λ (w : ℕ). IsRoot store (Some root.name) (root.key / 256) w) wide r)

  -- the pairs of a table, cut at one root
  pub record Parts (store : Store (Node V)) (roots : List Root) (eid : Eid) (root : Root) : Type 0 where
    pub front : List (Eid × V)
    pub back : List (Eid × V)
    pub is : pairs_under store roots ≡ front ++ (pairs (tree_of store (Some root.name)) ++ back)
    pub front_misses : All (λ pair. covers_eid pair.0 eid ≡ true → ⊥) front
    pub back_misses : All (λ pair. covers_eid pair.0 eid ≡ true → ⊥) back
    pub root_is : IsRoot store (Some root.name) eid.iid (key_width eid)

  pub parts_at : (store : Store (Node V)) (roots : List Root) (spare len capacity : ℕ) (eid : Eid) (at : ℕ) (root : Root) → IsTable store roots spare len capacity → IsAt roots (root_key eid) at → root ≡ get_or roots at root → Parts store roots eid root
  parts_at store roots spare len capacity eid at root table found read =
      let c = cut_at roots (root_key eid) at table.forest.rise found in
      let same : c.root ≡ root = c.here ∙ get_or_same roots at c.root root found.in_range ∙ sym read in
      let split = subst (λ (l : List Root). All (IsRootIn store) l) c.is table.forest.each in
      let ends = All-split (IsRootIn store) c.front (c.root ∷ c.back) split in
      subst (λ (r : Root). Parts store roots eid r) same (record {
        front = pairs_under store c.front;
        back = pairs_under store c.back;
        is = ap (pairs_under store) c.is ∙ pairs_under-append store c.front (c.root ∷ c.back);
        front_misses = others_miss store c.front eid ends.0 (All-weaker (λ r. r.key < root_key eid) (λ r. r.key ≢ root_key eid) (λ r less same. absurd (omega (arith, less, same))) c.front c.lower);
        back_misses = others_miss store c.back eid (All-tail (IsRootIn store) c.root c.back ends.1) (All-weaker (λ r. root_key eid < r.key) (λ r. r.key ≢ root_key eid) (λ r more same. absurd (omega (arith, more, same))) c.back c.upper);
        root_is = root_of store c.root eid (All-head (IsRootIn store) c.root c.back ends.1) c.has_key;
      })

  -- where no root has the EID's key, nothing covers it
  pub gap_misses : (store : Store (Node V)) (roots : List Root) (spare len capacity : ℕ) (eid : Eid) (at : ℕ) → IsTable store roots spare len capacity → IsGapFor roots (root_key eid) at → All (λ pair. covers_eid pair.0 eid ≡ true → ⊥) (pairs_under store roots)
  gap_misses store roots spare len capacity eid at table gap =
      others_miss store roots eid table.forest.each (All-from_get_or (λ r. r.key ≢ root_key eid) roots (record { key = 0; name = 0 }) (λ j in_range same.
      elim (cases_lt j at) [
        | inl less ↦ absurd (omega (arith, gap.smaller_before j less, same))
        | inr more ↦ absurd (omega (arith, gap.greater_after j more in_range, same))
      ]))

  module _ (answers : V → Bool → Type 0) (eid : Eid) where
    refused_all : (l : List (Eid × V)) → All (λ pair. covers_eid pair.0 eid ≡ true → ⊥) l → All (IsRefused answers eid) l
    refused_all l misses = All-weaker (λ pair. covers_eid pair.0 eid ≡ true → ⊥) (IsRefused answers eid) (λ pair miss covers. absurd (miss covers)) l misses

    pub none_found : {X : Type 0} (Q : X → Type 0) (l : List (Eid × V)) (result : Option X) → result ≡ None → All (λ pair. covers_eid pair.0 eid ≡ true → ⊥) l → MatchOption result (All (IsRefused answers eid) l) Q
    none_found Q l result none misses = rw none (refused_all l misses)

    -- what is the longest under its root is the longest of all
    pub spread : {X : Type 0} (seen : X → Eid × V) (store : Store (Node V)) (roots : List Root) (root : Root) (result : Option X) → Parts store roots eid root → MatchOption result (All (IsRefused answers eid) (pairs (tree_of store (Some root.name)))) (λ found. IsLongestWhere answers eid (pairs (tree_of store (Some root.name))) (seen found)) → MatchOption result (All (IsRefused answers eid) (pairs_under store roots)) (λ found. IsLongestWhere answers eid (pairs_under store roots) (seen found))
    spread seen store roots root None parts none =
        subst (λ (l : List (Eid × V)). All (IsRefused answers eid) l) (sym parts.is)
        (All-append (IsRefused answers eid) parts.front (pairs (tree_of store (Some root.name)) ++ parts.back) (refused_all parts.front parts.front_misses)
        (All-append (IsRefused answers eid) (pairs (tree_of store (Some root.name))) parts.back none (refused_all parts.back parts.back_misses)))
    spread seen store roots root (Some x) parts found =
        let P = λ (other : Eid × V). key_len (seen x).0 < key_len other.0 → IsRefused answers eid other in
        let missed = λ (l : List (Eid × V)) (misses : All (λ pair. covers_eid pair.0 eid ≡ true → ⊥) l). All-weaker (λ pair. covers_eid pair.0 eid ≡ true → ⊥) P (λ pair miss less covers. absurd (miss covers)) l misses in
        subst (λ (l : List (Eid × V)). IsLongestWhere answers eid l (seen x)) (sym parts.is) (record {
          there = Contains-append_right parts.front (pairs (tree_of store (Some root.name)) ++ parts.back) (seen x) (Contains-append_left (pairs (tree_of store (Some root.name))) parts.back (seen x) found.there);
          covers = found.covers;
          passes = found.passes;
          longest = All-append P parts.front (pairs (tree_of store (Some root.name)) ++ parts.back) (missed parts.front parts.front_misses) (All-append P (pairs (tree_of store (Some root.name))) parts.back found.longest (missed parts.back parts.back_misses));
        })
