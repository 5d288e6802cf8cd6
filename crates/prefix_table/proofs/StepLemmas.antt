-- The way to an EID leads past a node that covers it, to a side of the node.
use Rattle.std.proofs.Common.{◌≡◌, ℕ, ◌+◌, ◌-◌, ◌%◌, ◌<◌, ◌==◌, ◌||◌, Bool, true, false, not, List, length, Option, Some, None, IfSome, is_some, subst, refl, sym, ap, ◌∙◌, arith}
use Rattle.mapping_records.specs.declared.eid.Eid.{Eid}
use Rattle.mapping_records.specs.Eids.{covers_eid}
use Rattle.node_store.specs.Store.{Store, node_at, IsLive, Changes}
use Rattle.prefix_table.specs.declared.key.Key.{Key}
use Rattle.prefix_table.specs.declared.node.Node.{Node}
use Rattle.prefix_table.specs.Keys.{key_of, key_width, key_len, key_bits}
use Rattle.prefix_table.specs.Sides.{bit_of, sides, on_side}
use Rattle.prefix_table.specs.Tree.{Tree, pairs, Fits, side_bits}
use Rattle.prefix_table.specs.Pairs.{value_in}
use Rattle.prefix_table.specs.Edited.{Becomes, IsTrieAt, Holds, Takes, Edited, Edits}
use Rattle.prefix_table.proofs.Bits.{Covers, covers_parts}
use Rattle.prefix_table.proofs.KeyLemmas.{other_len, bit_behind}
use Rattle.prefix_table.proofs.ForkLemmas.{Top, Known, known_at}
use Rattle.prefix_table.proofs.LongestLemmas.{side_at}
use Rattle.prefix_table.proofs.SearchLemmas.{key_len-most, named_live}
use Rattle.prefix_table.proofs.TopLemmas.{IsLocal, value_on}
use Rattle.prefix_table.proofs.EditLemmas.{node_kept, edited_on, edited_gone}

-- the way to the EID leads past the node under `at`, to the name `next` on a side of it, where keys have at least
-- `more` bits
pub record Passes {V : Type 0} (store : Store (Node V)) (at : Option ℕ) (name : ℕ) (top : Node V) (eid : Eid) (side : Bool) (next : Option ℕ) (more : ℕ) : Type 0 where
  pub is : at ≡ Some name
  pub found : node_at store name ≡ Some top
  pub covers : Covers top.eid eid
  pub shorter : key_len top.eid < key_len eid
  pub on : key_bits eid (key_len top.eid + 1) ≡ side_bits top.eid (bit_of side)
  pub next_is : next ≡ on_side side top.next
  pub more_is : more ≡ key_len top.eid + 1

-- the way leads past a node, where the comparisons of keys tell it
pub passes : {V : Type 0} (store : Store (Node V)) (at : Option ℕ) (name : ℕ) (top : Node V) (eid : Eid) (side : Bool) (next : Option ℕ) (key sought : Key) → at ≡ Some name → node_at store name ≡ Some top → key ≡ key_of top.eid → sought ≡ key_of eid → covers_eid top.eid eid ≡ true → (key.len ≡ sought.len → ⊥) → side ≡ (key_bits eid (key.len + 1) % 2 == 1) → next ≡ on_side side top.next → Passes store at name top eid side next (key.len + 1)
passes store at name top eid side next key sought is found key_is sought_is covers differ bit next_is =
    let c = covers_parts top.eid eid covers in
    let shorter : key_len top.eid < key_len eid = omega (arith, c.shorter, other_len key sought top.eid eid key_is sought_is differ) in
    record {
      is = is;
      found = found;
      covers = c;
      shorter = shorter;
      on = side_at top.eid eid side c shorter (bit_behind key sought top.eid eid key_is sought_is side bit);
      next_is = next_is;
      more_is = ap (λ (k : Key). k.len + 1) key_is;
    }

module _ {V : Type 0} {store : Store (Node V)} {at : Option ℕ} {name : ℕ} {top : Node V} {eid : Eid} {side : Bool} {next : Option ℕ} {more : ℕ} (w : Passes store at name top eid side next more) where
  known_on : (bits len : ℕ) (tree : Tree V) → IsTrieAt store at eid bits len tree → Known store name top eid bits len side tree
  known_on bits len tree i = known_at store at name top eid bits len side tree i w.is w.found

  fits_on : Fits eid.iid (key_width eid) (side_bits top.eid (bit_of side)) (key_len top.eid + 1) eid
  fits_on = record { same_iid = refl; same_width = refl; longer = omega (arith, w.shorter); front = w.on }

  near_at : (bits len : ℕ) (near far : Tree V) → Top store name top eid bits len side near far → IsTrieAt store (on_side side top.next) eid (side_bits top.eid (bit_of side)) (key_len top.eid + 1) near
  near_at bits len near far t = record { named = t.near_named; spelled = t.near_spelled; trie = t.near_trie }

  onward : (P : Option ℕ → ℕ → Type 0) → P (on_side side top.next) (key_len top.eid + 1) → P next more
  onward P holds = subst (λ (n : Option ℕ). P n more) (sym w.next_is) (subst (λ (m : ℕ). P (on_side side top.next) m) (sym w.more_is) holds)

  -- what is below the node on that side holds the EID, or takes it
  abbrev holds_near : (len : ℕ) → Holds store at len eid → Holds store (on_side side top.next) (key_len top.eid + 1) eid
  holds_near len h =
      let k = known_on h.bits len h.tree h.is in
      record { tree = k.near; bits = side_bits top.eid (bit_of side); is = near_at h.bits len k.near k.far k.here; fits = fits_on }

  pub holds_on : (len : ℕ) → Holds store at len eid → Holds store next more eid
  holds_on len h = onward (λ n m. Holds store n m eid) (holds_near len h)

  pub takes_on : (len : ℕ) → Takes store at len eid → Takes store next more eid
  takes_on len t =
      let h = t.holds in
      let k = known_on h.bits len h.tree h.is in
      onward (λ n m. Takes store n m eid) (record {
        holds = holds_near len h;
        room = λ missing. t.room (ap (λ (r : Tree V). value_in eid (pairs r)) k.is ∙ value_on store name top eid h.bits len side k.near k.far k.here w.covers w.shorter w.on ∙ missing);
      })

  -- keys below the node are longer
  pub deeper : (len : ℕ) → Holds store at len eid → 129 - more < 129 - len
  deeper len h =
      let t = (known_on h.bits len h.tree h.is).here in
      omega (arith, w.more_is, (t.fits).longer, key_len-most top.eid)

  -- the pairs below changed
  module _ (mid : Store (Node V)) (change : List (Eid × V) → List (Eid × V)) (below : Option ℕ) (was : Option V) (edits : Edits store mid change next more eid below was) where
    edited_near : (bits len : ℕ) (near far : Tree V) → Top store name top eid bits len side near far → Edited store mid change (side_bits top.eid (bit_of side)) (key_len top.eid + 1) eid near below was
    edited_near bits len near far t =
        let edits_here : Edits store mid change (on_side side top.next) more eid below was = subst (λ (n : Option ℕ). Edits store mid change n more eid below was) w.next_is edits in
        let edits_near : Edits store mid change (on_side side top.next) (key_len top.eid + 1) eid below was = subst (λ (m : ℕ). Edits store mid change (on_side side top.next) m eid below was) w.more_is edits_here in
        edits_near near (side_bits top.eid (bit_of side)) (near_at bits len near far t) fits_on

    -- the node is still there, and so is the one below it
    pub there_on : (len : ℕ) → Holds store at len eid → node_at mid name ≡ Some top
    there_on len h =
        let k = known_on h.bits len h.tree h.is in
        node_kept store mid change name top eid h.bits len side k.near k.far below was k.here (edited_near h.bits len k.near k.far k.here)

    pub below_on : (len : ℕ) → Holds store at len eid → IfSome below (IsLive mid)
    below_on len h =
        let k = known_on h.bits len h.tree h.is in
        let g = edited_near h.bits len k.near k.far k.here in
        named_live mid g.tree below g.named g.spelled

    module _ (new : Store (Node V)) (len : ℕ) (leaves : IsLocal eid change) (slots : length new.slots ≡ length mid.slots) where
      -- the node names the trie that is below it now
      pub edits_on : (is_some top.value || is_some below) ≡ true → Becomes mid new name (λ (t : Node V). record t { next = sides side below (on_side (not side) t.next) }) → new.rooms ≡ mid.rooms → Edits store new change at len eid (Some name) was
      edits_on stands links rooms tree bits i fits =
          let k = known_on bits len tree i in
          let g = edited_near bits len k.near k.far k.here in
          let there = node_kept store mid change name top eid bits len side k.near k.far below was k.here g in
          subst (λ (r : Tree V). Edited store new change bits len eid r (Some name) was) (sym k.is)
          (edited_on store mid new change name top eid bits len side k.near k.far below was leaves k.here w.covers w.shorter w.on g (links top there) stands rooms slots)

      -- the node goes, since no node is left below it
      pub edits_gone : (is_some top.value || is_some below) ≡ false → Changes mid new name None → new.rooms ≡ mid.rooms + 1 → Edits store new change at len eid (on_side (not side) top.next) was
      edits_gone falls changes rooms tree bits i fits =
          let k = known_on bits len tree i in
          let g = edited_near bits len k.near k.far k.here in
          subst (λ (r : Tree V). Edited store new change bits len eid r (on_side (not side) top.next) was) (sym k.is)
          (edited_gone store mid new change name top eid bits len side k.near k.far below was leaves k.here w.covers w.shorter w.on g changes falls rooms slots)
