-- What each way of putting a pair into a trie gives.
use Rattle.std.proofs.Common.{◌≡◌, ◌≢◌, ℕ, ◌+◌, ◌-◌, ◌*◌, ◌%◌, ◌^◌, ◌<◌, ◌≤◌, ◌==◌, Bool, true, false, not, Option, Some, None, length, is_some, inl, inr, subst, refl, sym, ap, ◌∙◌, arith}
use Rattle.std.proofs.lemmas.Bool.{false≢true, eqb-true, eqb-false, cases_Bool}
use native.Mathlib.Nat.{mod-lt, div-add-mod}
use Rattle.ip_headers.specs.Addr.{number, width}
use Rattle.ip_headers.specs.declared.addr.Addr.{Addr}
use Rattle.ip_headers.specs.declared.addr.Addr.TheVariants.{V4, V6}
use Rattle.mapping_records.specs.declared.eid.Eid.{Eid}
use Rattle.mapping_records.proofs.EqualValue.{equal_eid, equal_prefix}
use Rattle.node_store.specs.Store.{Store, node_at, IsLive, Changes}
use Rattle.prefix_table.specs.declared.node.Node.{Node}
use Rattle.mapping_records.specs.Eids.{covers_eid}
use Rattle.prefix_table.specs.Keys.{key_width, key_len, key_bits}
use Rattle.prefix_table.specs.Sides.{sides}
use Rattle.prefix_table.specs.Tree.{Tree, pairs}
use Rattle.prefix_table.specs.Tree.Tree.{none, node}
use Rattle.prefix_table.specs.Spelled.{name_of}
use Rattle.prefix_table.specs.Pairs.{with_pair, value_in}
use Rattle.prefix_table.specs.Common.{IsCommon}
use Rattle.prefix_table.specs.Edited.{IsTrieAt, Takes, Edited, Puts}
use Rattle.prefix_table.proofs.Bits.{Covers, covers_parts, covers_from, key_len-within, same_shorter, key_bits-half}
use Rattle.prefix_table.proofs.ForkLemmas.{Top, known_at}
use Rattle.prefix_table.proofs.KeyLemmas.{given_of}
use Rattle.prefix_table.proofs.OrderLemmas.{number_aligned}
use Rattle.prefix_table.proofs.SearchLemmas.{top_live}
use Rattle.prefix_table.proofs.TopLemmas.{value_missed}
use Rattle.prefix_table.proofs.EditLemmas.{leaf, replaced, edited_leaf, edited_own, edited_above, edited_beside}

-- a key that covers one that doesn't cover it is shorter
strictly : (a b : Eid) → covers_eid a b ≡ true → covers_eid b a ≡ false → key_len a < key_len b
strictly a b covers not_back =
    let c = covers_parts a b covers in
    let longer : key_len a ≢ key_len b = λ same. false≢true (sym not_back ∙ covers_from b a (record {
      same_iid = sym c.same_iid;
      same_width = sym c.same_width;
      shorter = omega (arith, same);
      front = ap (key_bits b) (sym same) ∙ sym c.front ∙ ap (key_bits a) same;
    })) in
    omega (arith, c.shorter, longer)

-- both have the bits of the one that covers them, and differ in the next
other_side : (over key eid : Eid) (len : ℕ) (side : Bool) → IsCommon over key eid len → (key_bits eid (key_len over + 1) % 2 == 1) ≡ side → (key_bits key (key_len over + 1) % 2 == 1) ≡ not side
other_side over key eid len side c bit =
    let half_key = key_bits-half key (key_len over) (omega (arith, c.in_key, key_len-within key)) in
    let half_eid = key_bits-half eid (key_len over) (omega (arith, c.in_eid, key_len-within eid)) in
    let m : ℕ = key_bits key (key_len over + 1) in
    let n : ℕ = key_bits eid (key_len over + 1) in
    let apart_bits : m % 2 ≢ n % 2 = λ same. c.differ (omega (arith, same, half_key, half_eid, c.both, div-add-mod m 2, div-add-mod n 2)) in
    opposite m n side apart_bits bit
  where
    opposite : (m n : ℕ) (side : Bool) → m % 2 ≢ n % 2 → (n % 2 == 1) ≡ side → (m % 2 == 1) ≡ not side
    opposite m n side differ bit =
        let in_m = mod-lt m {m = 2} (omega arith) in
        let in_n = mod-lt n {m = 2} (omega arith) in
        elim (cases_Bool (m % 2 == 1)) [
          | inl odd ↦ elim (cases_Bool (n % 2 == 1)) [
            | inl odd_n ↦ absurd (differ (eqb-true _ _ odd ∙ sym (eqb-true _ _ odd_n)))
            | inr even_n ↦ odd ∙ ap not (sym even_n ∙ bit)
          ]
          | inr even ↦ elim (cases_Bool (n % 2 == 1)) [
            | inl odd_n ↦ even ∙ ap not (sym odd_n ∙ bit)
            | inr even_n ↦
                let not_m : m % 2 ≢ 1 = eqb-false _ _ even in
                let not_n : n % 2 ≢ 1 = eqb-false _ _ even_n in
                absurd (differ (omega (arith, in_m, in_n, not_m, not_n)))
          ]
        ]

same_addr : (a b : Addr) → width a ≡ width b → number a ≡ number b → a ≡ b
same_addr (V4 m) (V4 n) w is = ap (λ x. V4 x) is
same_addr (V6 m) (V6 n) w is = ap (λ x. V6 x) is
same_addr (V4 m) (V6 n) w is = absurd (omega (arith, w))
same_addr (V6 m) (V4 n) w is = absurd (omega (arith, w))

-- keys that cover and are as long are one
pub same_key : (a b : Eid) → Covers a b → key_len a ≡ key_len b → a ≡ b
same_key a b c len =
    let size : 2 ^ (key_width a - key_len a) ≡ 2 ^ (key_width b - key_len b) = ap (λ n. 2 ^ n) (omega (arith, c.same_width, len)) in
    let bits : key_bits a (key_len a) ≡ key_bits b (key_len b) = c.front ∙ ap (key_bits b) len in
    let num : number a.prefix.addr ≡ number b.prefix.addr = number_aligned a ∙ ap (λ s. s * key_bits a (key_len a)) size ∙ ap (λ n. 2 ^ (key_width b - key_len b) * n) bits ∙ sym (number_aligned b) in
    equal_eid a b c.same_iid (equal_prefix a.prefix b.prefix (same_addr a.prefix.addr b.prefix.addr c.same_width num) len)

module _ {V : Type 0} where
  -- nothing is under no name
  pub puts_leaf : (old new : Store (Node V)) (name : ℕ) (eid : Eid) (value : V) (len : ℕ) → node_at old name ≡ None → Changes old new name (Some (leaf eid value)) → old.rooms ≡ new.rooms + 1 → length new.slots ≡ length old.slots → Puts old new None len eid value name None
  puts_leaf old new name eid value len fresh changes rooms slots tree bits i fits = by_tree tree i.named
    where
      by_tree : (tree : Tree V) → name_of tree ≡ None → Edited old new (with_pair eid value) bits len eid tree (Some name) None
      by_tree none named = edited_leaf old new name bits len eid value fresh changes fits rooms slots
      by_tree (node other key v low high) named = absurd (cc (named))

  module _ (old : Store (Node V)) (at : ℕ) (key eid : Eid) (value : V) (len : ℕ) (live : IsLive old at) (key_is : (top : Node V) → node_at old at ≡ Some top → top.eid ≡ key) where
    -- the trie's node is known
    topped : (made : Store (Node V)) (name : ℕ) (tree : Tree V) (bits : ℕ) → IsTrieAt old (Some at) eid bits len tree → ((top : Node V) (low high : Tree V) → top.eid ≡ key → Top old at top eid bits len false low high → Edited old made (with_pair eid value) bits len eid (node at top.eid top.value low high) (Some name) None) → Edited old made (with_pair eid value) bits len eid tree (Some name) None
    topped made name tree bits i edited =
        let top = given_of (node_at old at) live in
        let k = known_at old (Some at) at top.value eid bits len false tree i refl top.is in
        subst (λ (t : Tree V). Edited old made (with_pair eid value) bits len eid t (Some name) None) (sym k.is) (edited top.value k.near k.far (key_is top.value top.is) k.here)

    pub puts_above : (new : Store (Node V)) (name : ℕ) (side : Bool) → covers_eid eid key ≡ true → covers_eid key eid ≡ false → (key_bits key (key_len eid + 1) % 2 == 1) ≡ side → node_at old name ≡ None → Changes old new name (Some (record { eid = eid; value = Some value; next = sides side (Some at) None })) → old.rooms ≡ new.rooms + 1 → length new.slots ≡ length old.slots → Puts old new (Some at) len eid value name None
    puts_above new name side above not_below bit fresh changes rooms slots tree bits i fits =
        topped new name tree bits i (λ top low high is t.
        let covers = subst (λ (k : Eid). covers_eid eid k ≡ true) (sym is) above in
        let not_covers = subst (λ (k : Eid). covers_eid k eid ≡ false) (sym is) not_below in
        let bit_is = subst (λ (k : Eid). (key_bits k (key_len eid + 1) % 2 == 1) ≡ side) (sym is) bit in
        edited_above old at top eid bits len low high t new name value side fits (covers_parts eid top.eid covers) (strictly eid top.eid covers not_covers) bit_is fresh changes rooms slots)

    pub puts_beside : (mid new : Store (Node V)) (leaf_name name : ℕ) (over : Eid) (side : Bool) → IsCommon over key eid len → (key_bits eid (key_len over + 1) % 2 == 1) ≡ side → node_at old leaf_name ≡ None → Changes old mid leaf_name (Some (leaf eid value)) → node_at mid name ≡ None → Changes mid new name (Some (record { eid = over; value = None; next = sides side (Some leaf_name) (Some at) })) → old.rooms ≡ new.rooms + 2 → length new.slots ≡ length old.slots → Puts old new (Some at) len eid value name None
    puts_beside mid new leaf_name name over side common bit fresh_leaf made_leaf fresh changes rooms slots tree bits i fits =
        topped new name tree bits i (λ top low high is t.
        let c = subst (λ (k : Eid). IsCommon over k eid len) (sym is) common in
        edited_beside old at top eid bits len low high t mid new leaf_name name over value side fits
        (record {
          same_iid = c.same_iid;
          same_width = c.same_width;
          longer = c.longer;
          front = same_shorter over eid len (key_len over) c.longer (key_len-within over) (omega (arith, c.in_eid, key_len-within eid)) c.front ∙ fits.front;
        })
        (record { same_iid = c.same_iid; same_width = c.same_width; shorter = omega (arith, c.in_eid); front = c.front })
        (record { same_iid = c.same_iid ∙ sym (t.fits).same_iid; same_width = c.same_width ∙ sym (t.fits).same_width; shorter = omega (arith, c.in_key); front = c.front ∙ sym c.both })
        c.in_eid c.in_key bit (other_side over top.eid eid len side c bit) fresh_leaf made_leaf fresh changes rooms slots)

  pub puts_same : (old new : Store (Node V)) (where_ : Option ℕ) (at : ℕ) (top : Node V) (eid : Eid) (value : V) (len : ℕ) → where_ ≡ Some at → node_at old at ≡ Some top → covers_eid top.eid eid ≡ true → key_len top.eid ≡ key_len eid → Changes old new at (Some (record top { value = Some value })) → new.rooms ≡ old.rooms → length new.slots ≡ length old.slots → Puts old new where_ len eid value at top.value
  puts_same old new where_ at top eid value len is found covers same changes rooms slots tree bits i fits =
      let k = known_at old where_ at top eid bits len false tree i is found in
      let key_is : top.eid ≡ eid = same_key top.eid eid (covers_parts top.eid eid covers) same in
      subst (λ (t : Tree V). Edited old new (with_pair eid value) bits len eid t (Some at) top.value) (sym k.is)
      (edited_own old new at top eid bits len false k.near k.far k.here key_is slots (with_pair eid value) (Some value) (replaced eid value) tt changes rooms)

  -- a node stays where one is put in
  pub still_live : (old new : Store (Node V)) (at name : ℕ) (slot : Option (Node V)) → Changes old new name slot → node_at old name ≡ None → IsLive old at → IsLive new at
  still_live old new at name slot change fresh live =
      ap is_some (change.others at (λ same. absurd (cc (sym live ∙ ap is_some (ap (node_at old) same ∙ fresh))))) ∙ live

  -- the trie that takes a pair has its node
  pub live_taken : (old : Store (Node V)) (at : ℕ) (eid : Eid) (len : ℕ) → Takes old (Some at) len eid → IsLive old at
  live_taken old at eid len t =
      let h = t.holds in
      top_live old h.tree at (h.is).named (h.is).spelled

  pub room_leaf : (old : Store (Node V)) (where_ : Option ℕ) (eid : Eid) (len : ℕ) → Takes old where_ len eid → where_ ≡ None → 2 ≤ old.rooms
  room_leaf old where_ eid len t is =
      let h = t.holds in
      t.room (nothing h.tree ((h.is).named ∙ is))
    where
      nothing : (tree : Tree V) → name_of tree ≡ None → value_in eid (pairs tree) ≡ None
      nothing none named = refl
      nothing (node other key v low high) named = absurd (cc (named))

  pub room_missed : (old : Store (Node V)) (at : ℕ) (top : Node V) (eid : Eid) (len : ℕ) → Takes old (Some at) len eid → node_at old at ≡ Some top → covers_eid top.eid eid ≡ false → 2 ≤ old.rooms
  room_missed old at top eid len t found missed =
      let h = t.holds in
      let k = known_at old (Some at) at top eid h.bits len false h.tree h.is refl found in
      t.room (ap (λ (r : Tree V). value_in eid (pairs r)) k.is ∙ value_missed old at top eid h.bits len k.near k.far k.here missed)
