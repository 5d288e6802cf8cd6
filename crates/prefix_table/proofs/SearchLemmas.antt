-- A search on its way down a trie in a store.
use Rattle.std.proofs.Common.{◌≡◌, ℕ, ◌+◌, ◌%◌, ◌<◌, ◌≤◌, ◌==◌, Bool, true, false, not, All, MatchOption, IfSome, Option, is_some, Some, None, inl, inr, subst, refl, sym, ap, ◌∙◌, arith}
use Rattle.mapping_records.specs.declared.eid.Eid.{Eid}
use Rattle.node_store.specs.Store.{Store, node_at, IsLive}
use Rattle.ip_headers.specs.Addr.{width}
use Rattle.ip_headers.specs.declared.addr.Addr.{Addr}
use Rattle.ip_headers.specs.declared.addr.Addr.TheVariants.{V4, V6}
use Rattle.std.specs.Option.{option_map}
use Rattle.std.proofs.lemmas.Option.{same_Some}
use Rattle.prefix_table.specs.declared.node.Node.{Node}
use Rattle.mapping_records.specs.Eids.{covers_eid}
use Rattle.prefix_table.specs.Keys.{key_width, key_len, key_bits}
use Rattle.prefix_table.specs.Tree.{Tree, pairs, IsTrie, side_bits}
use Rattle.prefix_table.specs.Tree.Tree.{none, node}
use Rattle.prefix_table.specs.Limits.{most_nodes}
use Rattle.prefix_table.specs.Longest.{IsRefused, IsLongestWhere, After}
use Rattle.prefix_table.specs.Longest.After.{passed, refused, valueless}
use Rattle.prefix_table.specs.Spelled.{name_of, Spells}
use Rattle.prefix_table.specs.Sides.{bit_of, on_side}
use Rattle.prefix_table.proofs.Bits.{covers_parts, key_len-within}
use Rattle.prefix_table.proofs.ForkLemmas.{sides_differ, fork, IsTrie-top, Known, known_at}
use Rattle.prefix_table.proofs.LongestLemmas.{Each, Misses, Parts, Each-weaker, each_fits, All-pairs, Contains-pairs, Answers, step_passed, step_refused, side_longer, side_misses, none_covers, longer_misses, parts, side_at}

pub width-most : (addr : Addr) → width addr ≤ 128
width-most (V4 n) = omega arith
width-most (V6 n) = omega arith

pub key_len-most : (key : Eid) → key_len key ≤ 128
key_len-most key = omega (arith, key_len-within key, width-most key.prefix.addr)

-- the node of a tree's name is there
pub top_live : {V : Type 0} (store : Store (Node V)) (tree : Tree V) (name : ℕ) → name_of tree ≡ Some name → Spells store tree → IsLive store name
top_live store none name named spelled = absurd (cc (named))
top_live store (node other key value low high) name named spelled =
    ap (λ n. is_some (node_at store n)) (sym (same_Some other name named)) ∙ ap is_some spelled.0

pub named_live : {V : Type 0} (store : Store (Node V)) (tree : Tree V) (at : Option ℕ) → name_of tree ≡ at → Spells store tree → IfSome at (IsLive store)
named_live store tree None named spelled = tt
named_live store tree (Some name) named spelled = top_live store tree name named spelled

module _ {V : Type 0} (answers : V → Bool → Type 0) (eid : Eid) (store : Store (Node V)) (whole : Tree V) where
  -- what is left is the trie under this name; its keys are longer than the number of reads so far; what
  -- a search of it answers, a search of the whole does
  pub record Searching (at : Option ℕ) (best : Option (Eid × V)) (start reads : ℕ) : Type 0 where
    pub rest : Tree V
    pub bits : ℕ
    pub len : ℕ
    pub named : name_of rest ≡ at
    pub spelled : Spells store rest
    pub trie : IsTrie eid.iid (key_width eid) bits len rest
    pub within : len ≤ most_nodes
    pub counted : reads ≤ start + len
    pub rises : start ≤ reads
    pub goes_on : (result : Option (Eid × V)) → Answers answers eid rest best result → Answers answers eid whole None result

  -- the node is there
  pub live : (at : Option ℕ) (name : ℕ) (best : Option (Eid × V)) (start reads : ℕ) → Searching at best start reads → at ≡ Some name → IsLive store name
  live at name best start reads s is = top_live store s.rest name (s.named ∙ is) s.spelled

  -- the node, and the tries on its sides
  pub known : (at : Option ℕ) (name : ℕ) (best : Option (Eid × V)) (start reads : ℕ) (top : Node V) (side : Bool) → (s : Searching at best start reads) → at ≡ Some name → node_at store name ≡ Some top → Known store name top eid s.bits s.len side s.rest
  known at name best start reads top side s is found =
      known_at store at name top eid s.bits s.len side s.rest (record { named = s.named; spelled = s.spelled; trie = s.trie }) is found

  -- the node is of the instance and family of what is sought
  pub same_family : (at : Option ℕ) (name : ℕ) (best : Option (Eid × V)) (start reads : ℕ) (top : Node V) → Searching at best start reads → at ≡ Some name → node_at store name ≡ Some top → (top.eid.iid ≡ eid.iid) × (key_width top.eid ≡ key_width eid)
  same_family at name best start reads top s is found =
      let t = (known at name best start reads top false s is found).here in ((t.fits).same_iid, (t.fits).same_width)

  pub end_none : (at : Option ℕ) (best : Option (Eid × V)) (start reads : ℕ) → Searching at best start reads → at ≡ None → Answers answers eid whole None best
  end_none at best start reads s is = s.goes_on best (inl (refl, nothing s.rest (s.named ∙ is)))
    where
      nothing : (rest : Tree V) → name_of rest ≡ None → Each (IsRefused answers eid) rest
      nothing none named = tt
      nothing (node other key value low high) named = absurd (cc (named))

  -- where its key doesn't cover the EID, no key of the trie does
  pub none_left : (at : Option ℕ) (name : ℕ) (best : Option (Eid × V)) (start reads : ℕ) (top : Node V) (s : Searching at best start reads) → at ≡ Some name → node_at store name ≡ Some top → covers_eid top.eid eid ≡ false → Each (Misses answers eid) s.rest
  none_left at name best start reads top s is found missed =
      let k = known at name best start reads top false s is found in
      let trie = IsTrie-top store name top eid s.bits s.len false k.near k.far k.here in
      subst (λ (tree : Tree V). Each (Misses answers eid) tree) (sym k.is) (none_covers answers eid name top.eid top.value k.near k.far eid.iid (key_width eid) s.bits s.len trie missed)

  pub end_missed : (at : Option ℕ) (name : ℕ) (best : Option (Eid × V)) (start reads : ℕ) (top : Node V) → Searching at best start reads → at ≡ Some name → node_at store name ≡ Some top → covers_eid top.eid eid ≡ false → Answers answers eid whole None best
  end_missed at name best start reads top s is found missed =
      s.goes_on best (inl (refl, Each-weaker (Misses answers eid) (IsRefused answers eid) s.rest (λ other miss covers. absurd (miss covers)) (none_left at name best start reads top s is found missed)))

  pub over : (tree near far : Tree V) (key : Eid) (value : Option V) (best next result : Option (Eid × V)) → Parts answers eid tree near far key value → covers_eid key eid ≡ true → Each (λ other. key_len key < key_len other.0) near → Each (Misses answers eid) far → After answers best key value next → Answers answers eid near next result → Answers answers eid tree best result
  over tree near far key value best next result parts covers longer misses (passed v p) below =
      step_passed answers eid tree near far key v best result parts covers p longer misses below
  over tree near far key value best next result parts covers longer misses (refused v p) below =
      step_refused answers eid tree near far key (Some v) best result parts (λ is. p) longer misses below
  over tree near far key value best next result parts covers longer misses valueless below =
      step_refused answers eid tree near far key None best result parts tt longer misses below

  -- the search goes on on a side of a node, if what it answers there is an answer of the node's trie
  pub goes_below : (at : Option ℕ) (best next : Option (Eid × V)) (start reads now name : ℕ) (top : Node V) (side : Bool) (s : Searching at best start reads) (k : Known store name top eid s.bits s.len side s.rest) → now ≡ reads + 1 → ((result : Option (Eid × V)) → Answers answers eid k.near next result → Answers answers eid (fork side name top.eid top.value k.near k.far) best result) → Searching (on_side side top.next) next start now
  goes_below at best next start reads now name top side s k count leads =
      let t = k.here in
      record {
        rest = k.near;
        bits = side_bits top.eid (bit_of side);
        len = key_len top.eid + 1;
        named = t.near_named;
        spelled = t.near_spelled;
        trie = t.near_trie;
        within = omega (arith, key_len-most top.eid);
        counted = omega (arith, s.counted, (t.fits).longer, count);
        rises = omega (arith, s.rises, count);
        goes_on = λ result below. s.goes_on result (subst (λ (tree : Tree V). Answers answers eid tree best result) (sym k.is) (leads result below));
      }

  -- behind a node whose key covers the EID, it goes on on the side of the next bit
  pub step : (at : Option ℕ) (name : ℕ) (best next : Option (Eid × V)) (start reads now : ℕ) (top : Node V) (side : Bool) → Searching at best start reads → at ≡ Some name → node_at store name ≡ Some top → covers_eid top.eid eid ≡ true → After answers best top.eid top.value next → key_len top.eid < key_len eid → (key_bits eid (key_len top.eid + 1) % 2 == 1) ≡ side → now ≡ reads + 1 → Searching (on_side side top.next) next start now
  step at name best next start reads now top side s is found covers after shorter bit count =
      let k = known at name best start reads top side s is found in
      let t = k.here in
      let on = side_at top.eid eid side (covers_parts top.eid eid covers) shorter bit in
      goes_below at best next start reads now name top side s k count (λ result below.
      over (fork side name top.eid top.value k.near k.far) k.near k.far top.eid top.value best next result (parts answers eid side name top.eid top.value k.near k.far) covers
      (side_longer answers eid k.near top.eid eid.iid (key_width eid) (side_bits top.eid (bit_of side)) t.near_trie)
      (side_misses answers eid k.far eid.iid (key_width eid) (side_bits top.eid (bit_of (not side))) (key_len top.eid + 1) t.far_trie (λ other. sides_differ top.eid side (sym on ∙ other))) after below)

  pub end_equal : (at : Option ℕ) (name : ℕ) (best next : Option (Eid × V)) (start reads : ℕ) (top : Node V) → Searching at best start reads → at ≡ Some name → node_at store name ≡ Some top → covers_eid top.eid eid ≡ true → After answers best top.eid top.value next → key_len top.eid ≡ key_len eid → Answers answers eid whole None next
  end_equal at name best next start reads top s is found covers after same =
      let k = known at name best start reads top false s is found in
      let t = k.here in
      let none_near = longer_misses answers eid k.near top.eid eid.iid (key_width eid) (side_bits top.eid 0) (omega (arith, same)) t.near_trie in
      let misses_far = each_fits (Misses answers eid) k.far eid.iid (key_width eid) (side_bits top.eid 1) (key_len top.eid + 1) t.far_trie (λ k v fits covers. let c = covers_parts k eid covers in omega (arith, same, fits.longer, c.shorter)) in
      s.goes_on next (
      subst (λ (tree : Tree V). Answers answers eid tree best next) (sym k.is)
      (over (node name top.eid top.value k.near k.far) k.near k.far top.eid top.value best next next (parts answers eid false name top.eid top.value k.near k.far) covers
      (side_longer answers eid k.near top.eid eid.iid (key_width eid) (side_bits top.eid 0) t.near_trie)
      misses_far after (inl (refl, none_near)))
      )

  -- what a search of the whole answers, said of its pairs
  pub told : {X : Type 0} (seen : X → Eid × V) (result : Option X) → Answers answers eid whole None (option_map seen result) → MatchOption result (All (IsRefused answers eid) (pairs whole)) (λ found. IsLongestWhere answers eid (pairs whole) (seen found))
  told seen None found =
      elim found [
        | inl nothing ↦ All-pairs (IsRefused answers eid) whole nothing.1
        | inr pair ↦ absurd (cc (pair.1))
      ]
  told seen (Some x) found =
      elim found [
        | inl nothing ↦ absurd (cc (nothing.0))
        | inr pair ↦
            subst (λ (p : Eid × V). IsLongestWhere answers eid (pairs whole) p) (sym (same_Some (seen x) pair.0 pair.1)) (record {
              there = Contains-pairs whole pair.0 pair.2.there;
              covers = pair.2.covers;
              passes = pair.2.passes;
              longest = All-pairs (λ other. key_len (pair.0).0 < key_len other.0 → IsRefused answers eid other) whole pair.2.longest;
            })
      ]
