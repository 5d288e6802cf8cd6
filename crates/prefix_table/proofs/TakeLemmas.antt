-- What each way of taking a pair out of a trie gives.
use Rattle.std.proofs.Common.{◌≡◌, ◌⊎◌, ℕ, ◌+◌, ◌&&◌, Bool, true, false, not, Option, Some, None, length, is_some, inl, inr, subst, refl, sym, ap, ◌∙◌}
use Rattle.std.specs.Option.{option_or}
use Rattle.mapping_records.specs.declared.eid.Eid.{Eid}
use Rattle.mapping_records.specs.Eids.{covers_eid}
use Rattle.node_store.specs.Store.{Store, node_at, Changes}
use Rattle.prefix_table.specs.declared.node.Node.{Node}
use Rattle.prefix_table.specs.Keys.{key_len}
use Rattle.prefix_table.specs.Sides.{on_side}
use Rattle.prefix_table.specs.Tree.{Tree, IsSomething}
use Rattle.prefix_table.specs.Pairs.{without_pair}
use Rattle.prefix_table.specs.Edited.{Edited, Shrinks}
use Rattle.prefix_table.proofs.Bits.{covers_parts}
use Rattle.prefix_table.proofs.ForkLemmas.{known_at}
use Rattle.prefix_table.proofs.PutLemmas.{same_key}
use Rattle.prefix_table.proofs.EditLemmas.{something_named, removed, edited_missed, edited_own, edited_dropped}

and_both : (a b : Bool) → (a && b) ≡ true → (a ≡ true) × (b ≡ true)
and_both false b is = absurd (cc (is))
and_both true b is = (refl, is)

pub both_true : (a b : Bool) → a ≡ true → b ≡ true → (a && b) ≡ true
both_true a b in_a in_b = rw (in_a, in_b) refl

pub first_false : (a b : Bool) → a ≡ false → (a && b) ≡ false
first_false a b in_a = rw in_a refl

pub second_false : (a b : Bool) → b ≡ false → (a && b) ≡ false
second_false false b in_b = refl
second_false true b in_b = in_b

one_empty : (a b : Option ℕ) → (is_some a && is_some b) ≡ false → (a ≡ None) ⊎ (b ≡ None)
one_empty None b is = inl refl
one_empty (Some m) None is = inr refl
one_empty (Some m) (Some n) is = absurd (cc (is))

or_none : (a b : Option ℕ) → b ≡ None → option_or a b ≡ a
or_none None b is = is
or_none (Some m) b is = refl

module _ {V : Type 0} where
  module _ (old : Store (Node V)) (where_ : Option ℕ) (at : ℕ) (top : Node V) (eid : Eid) (len : ℕ) (is : where_ ≡ Some at) (found : node_at old at ≡ Some top) where
    pub shrinks_missed : covers_eid top.eid eid ≡ false → Shrinks old old where_ len eid (Some at) None
    shrinks_missed missed tree bits i fits =
        let k = known_at old where_ at top eid bits len false tree i is found in
        subst (λ (r : Tree V). Edited old old (without_pair eid) bits len eid r (Some at) None) (sym k.is) (edited_missed old at top eid bits len k.near k.far k.here missed)

    -- the EID is the node's own
    module _ (covers : covers_eid top.eid eid ≡ true) (new : Store (Node V)) (same : key_len top.eid ≡ key_len eid) (slots : length new.slots ≡ length old.slots) where
      key_is : top.eid ≡ eid
      key_is = same_key top.eid eid (covers_parts top.eid eid covers) same

      pub shrinks_cleared : (is_some top.next.zero && is_some top.next.one) ≡ true → Changes old new at (Some (record top { value = None })) → new.rooms ≡ old.rooms → Shrinks old new where_ len eid (Some at) top.value
      shrinks_cleared both changes rooms tree bits i fits =
          let k = known_at old where_ at top eid bits len false tree i is found in
          let t = k.here in
          let parts = and_both (is_some top.next.zero) (is_some top.next.one) both in
          let branches : IsSomething k.near × IsSomething k.far = (something_named k.near (ap is_some t.near_named ∙ parts.0), something_named k.far (ap is_some t.far_named ∙ parts.1)) in
          subst (λ (r : Tree V). Edited old new (without_pair eid) bits len eid r (Some at) top.value) (sym k.is)
          (edited_own old new at top eid bits len false k.near k.far t key_is slots (without_pair eid) None (removed eid) branches changes rooms)

      -- no node is on one side, and the trie is what is on the other
      dropped_on : (side : Bool) → on_side side top.next ≡ None → Changes old new at None → new.rooms ≡ old.rooms + 1 → Shrinks old new where_ len eid (on_side (not side) top.next) top.value
      dropped_on side empty changes rooms tree bits i fits =
          let k = known_at old where_ at top eid bits len side tree i is found in
          subst (λ (r : Tree V). Edited old new (without_pair eid) bits len eid r (on_side (not side) top.next) top.value) (sym k.is)
          (edited_dropped old new at top eid bits len side k.near k.far k.here key_is slots empty changes rooms)

      pub shrinks_dropped : (is_some top.next.zero && is_some top.next.one) ≡ false → Changes old new at None → new.rooms ≡ old.rooms + 1 → Shrinks old new where_ len eid (option_or top.next.zero top.next.one) top.value
      shrinks_dropped not_both changes rooms =
          elim (one_empty top.next.zero top.next.one not_both) [
            | inl empty ↦
                subst (λ (r : Option ℕ). Shrinks old new where_ len eid r top.value) (sym (ap (λ z. option_or z top.next.one) empty)) (dropped_on false empty changes rooms)
            | inr empty ↦
                subst (λ (r : Option ℕ). Shrinks old new where_ len eid r top.value) (sym (or_none top.next.zero top.next.one empty)) (dropped_on true empty changes rooms)
          ]

  -- a node with no value gives none
  pub never : (store : Store (Node V)) (at : ℕ) (valued : Bool) (was : Option V) (v : V) → is_some (node_at store at) ≡ true → ((top : Node V) → node_at store at ≡ Some top → valued ≡ is_some top.value) → ((top : Node V) → node_at store at ≡ Some top → was ≡ top.value) → valued ≡ false → was ≡ Some v → ⊥
  never store at valued was v live tells gives not_valued is = by_node (node_at store at) refl live
    where
      by_node : (o : Option (Node V)) → node_at store at ≡ o → is_some o ≡ true → ⊥
      by_node None found live = absurd (cc (live))
      by_node (Some top) found live = absurd (cc (sym not_valued ∙ tells top found ∙ ap is_some (sym (gives top found) ∙ is)))
