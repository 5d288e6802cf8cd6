-- A list of names over a store that changes at one name.
use Rattle.std.proofs.Common.{◌≡◌, ◌≢◌, ℕ, zero, suc, ◌+◌, ◌/◌, ◌<◌, ◌≤◌, ◌==◌, true, List, [], ◌∷◌, ◌++◌, length, get_or, take, drop, slice_set, Option, Some, None, is_some, All, inl, inr, sym, ap, ◌∙◌, arith, subst}
use Rattle.std.specs.List.{insert, remove}
use Rattle.std.proofs.lemmas.Bool.{cases_eq, eq-eqb, ne_eqb}
use Rattle.std.proofs.lemmas.List.{length-set, set_split, get_or-set_same, get_or-set_other}
use Rattle.std.proofs.lemmas.List.Edits.{length-insert, length-remove}
use Rattle.std.proofs.lemmas.List.Elements.{All-append, All-take, All-drop, All-cons, All-weaker}
use Rattle.node_store.specs.Store.{Store, node_at, IsLive, Changes, SameNodes, with_node}
use Rattle.named_list.specs.Named.{Named, before, items_at, times, named_of, IsNamedList}
use Rattle.named_list.specs.Limits.{ring_names}
use Rattle.named_list.specs.Lends.{with_item}
use Rattle.named_list.proofs.ItemsLemmas.{length-items_at, take-items_at, drop-items_at, items_at-append, items_at-same}
use Rattle.named_list.proofs.NamesLemmas.{one_if, none_times, names_split, times-insert, times-remove, front_differs, behind_differs, others_differ}

module _ {T : Type 0} where
  -- the nodes of all names stay
  pub named_same : (old new : Store T) (names : List ℕ) (capacity later : ℕ) → IsNamedList old names capacity → SameNodes old new → length new.slots ≡ length names + new.rooms → length names + new.rooms ≤ later → IsNamedList new names later
  named_same old new names capacity later is same all place = record {
    each = All-weaker (IsLive old) (IsLive new) (λ n live. ap is_some (same n) ∙ live) names is.each;
    once = is.once;
    all = all;
    place = place;
  }

  -- a name without a node differs from each of the list
  new_differs : (store : Store T) (names : List ℕ) (name : ℕ) → All (IsLive store) names → node_at store name ≡ None → All (λ n. n ≢ name) names
  new_differs store names name each dead =
      All-weaker (IsLive store) (λ n. n ≢ name) (λ n live same. absurd (cc (sym live ∙ ap is_some (ap (node_at store) same ∙ dead)))) names each

  module _ (old new : Store T) (names : List ℕ) (i name : ℕ) (item : T) where
    pub named_insert : (capacity later : ℕ) → IsNamedList old names capacity → i ≤ length names → node_at old name ≡ None → Changes old new name (Some item) → new.rooms + 1 ≡ old.rooms → length new.slots ≡ length old.slots → capacity ≤ later → IsNamedList new (insert names i name) later
    named_insert capacity later is within dead change rooms slots grown =
        let differ = new_differs old names name is.each dead in
        let len = length-insert names i name within in
        let live : All (IsLive new) names =
        All-weaker (λ n. (n ≢ name) × IsLive old n) (IsLive new) (λ n both. ap is_some (change.others n both.0) ∙ both.1) names (λ k d less. (differ k d less, is.each k d less)) in
        record {
          each = All-append (IsLive new) (take i names) (name ∷ drop i names)
              (All-take (IsLive new) i names live)
              (All-cons (IsLive new) name (drop i names) (ap is_some change.changed) (All-drop (IsLive new) i names live));
          once = λ n. elim (cases_eq name n) [
            | inl same ↦
                let one : one_if (name == n) ≡ 1 = ap one_if (eq-eqb name n same) in
                let none : times n names ≡ 0 = ap (λ m. times m names) (sym same) ∙ none_times name names differ in
                omega (arith, times-insert n name names i, one, none)
            | inr other ↦
                let zero_is : one_if (name == n) ≡ 0 = ap one_if (ne_eqb name n other) in
                omega (arith, times-insert n name names i, zero_is, is.once n)
          ];
          all = omega (arith, len, slots, rooms, is.all);
          place = omega (arith, len, rooms, is.place, grown);
        }

    pub items_insert : (capacity : ℕ) → IsNamedList old names capacity → node_at old name ≡ None → Changes old new name (Some item) → items_at new (insert names i name) ≡ insert (items_at old names) i item
    items_insert capacity is dead change =
        let differ = new_differs old names name is.each dead in
        let same : All (λ n. node_at new n ≡ node_at old n) names =
        All-weaker (λ n. n ≢ name) (λ n. node_at new n ≡ node_at old n) change.others names differ in
        let front = items_at-same old new (take i names) (All-take (λ n. node_at new n ≡ node_at old n) i names same) ∙ sym (take-items_at old i names is.each) in
        let behind = items_at-same old new (drop i names) (All-drop (λ n. node_at new n ≡ node_at old n) i names same) ∙ sym (drop-items_at old i names is.each) in
        items_at-append new (take i names) (name ∷ drop i names)
        ∙ ap (λ items. items ++ items_at new (name ∷ drop i names)) front
        ∙ ap (λ node. take i (items_at old names) ++ before node (items_at new (drop i names))) change.changed
        ∙ ap (λ items. take i (items_at old names) ++ item ∷ items) behind

  module _ (old new : Store T) (names : List ℕ) (i name : ℕ) where
    pub named_remove : (capacity later : ℕ) → IsNamedList old names capacity → i < length names → name ≡ get_or names i name → Changes old new name None → new.rooms ≡ old.rooms + 1 → length new.slots ≡ length old.slots → later ≡ capacity → IsNamedList new (remove names i) later
    named_remove capacity later is within read change rooms slots kept =
        let differ = others_differ name names i is.once within read in
        let len = length-remove names i within in
        let live : All (IsLive old) (remove names i) =
        All-append (IsLive old) (take i names) (drop (suc i) names) (All-take (IsLive old) i names is.each) (All-drop (IsLive old) (suc i) names is.each) in
        record {
          each = All-weaker (λ n. (n ≢ name) × IsLive old n) (IsLive new) (λ n both. ap is_some (change.others n both.0) ∙ both.1) (remove names i) (λ k d less. (differ k d less, live k d less));
          once = λ n. omega (arith, times-remove n name names i within read, is.once n);
          all = omega (arith, len, slots, rooms, is.all);
          place = omega (arith, len, rooms, is.place, kept);
        }

    pub items_remove : (capacity : ℕ) → IsNamedList old names capacity → i < length names → name ≡ get_or names i name → Changes old new name None → items_at new (remove names i) ≡ remove (items_at old names) i
    items_remove capacity is within read change =
        let differ = others_differ name names i is.once within read in
        items_at-same old new (remove names i) (All-weaker (λ n. n ≢ name) (λ n. node_at new n ≡ node_at old n) change.others (remove names i) differ)
        ∙ items_at-append old (take i names) (drop (suc i) names)
        ∙ ap (λ items. items ++ items_at old (drop (suc i) names)) (sym (take-items_at old i names is.each))
        ∙ ap (λ items. take i (items_at old names) ++ items) (sym (drop-items_at old (suc i) names is.each))

  within_slots : (slots : List (Option T)) (name : ℕ) → is_some (get_or slots name None) ≡ true → name < length slots
  within_slots [] name live = absurd (cc (live))
  within_slots (slot ∷ slots) zero live = omega arith
  within_slots (slot ∷ slots) (suc name) live = omega (arith, within_slots slots name live)

  -- the name at a place is that of a node
  pub name_live : (store : Store T) (names : List ℕ) (i name : ℕ) → All (IsLive store) names → i < length names → name ≡ get_or names i name → IsLive store name
  name_live store names i name each within read = subst (IsLive store) (sym read) (each i name within)

  module _ (store : Store T) (names : List ℕ) (i name : ℕ) (item : T) where
    changes-with_node : IsLive store name → Changes store (with_node store name item) name (Some item)
    changes-with_node live = record {
      changed = get_or-set_same store.slots name (Some item) None (within_slots store.slots name live);
      others = λ other differs. get_or-set_other store.slots name other (Some item) None differs;
    }

    pub named_edit : (capacity : ℕ) → IsNamedList store names capacity → i < length names → name ≡ get_or names i name → IsNamedList (with_node store name item) names capacity
    named_edit capacity is within read =
        let change = changes-with_node (name_live store names i name is.each within read) in
        record {
          each = All-weaker (IsLive store) (IsLive (with_node store name item)) (λ n live. elim (cases_eq n name) [
            | inl same ↦ ap is_some (ap (node_at (with_node store name item)) same ∙ change.changed)
            | inr differs ↦ ap is_some (change.others n differs) ∙ live
          ]) names is.each;
          once = is.once;
          all = length-set store.slots name (Some item) ∙ is.all;
          place = is.place;
        }

    items_edit : (capacity : ℕ) → IsNamedList store names capacity → i < length names → name ≡ get_or names i name → items_at (with_node store name item) names ≡ slice_set (items_at store names) i item
    items_edit capacity is within read =
        let new : Store T = with_node store name item in
        let change = changes-with_node (name_live store names i name is.each within read) in
        let len = length-items_at store names is.each in
        let same : (part : List ℕ) → All (λ n. n ≢ name) part → items_at new part ≡ items_at store part =
        λ part differ. items_at-same store new part (All-weaker (λ n. n ≢ name) (λ n. node_at new n ≡ node_at store n) change.others part differ) in
        let front = same (take i names) (front_differs name names i is.once within read) ∙ sym (take-items_at store i names is.each) in
        let behind = same (drop (suc i) names) (behind_differs name names i is.once within read) ∙ sym (drop-items_at store (suc i) names is.each) in
        ap (items_at new) (names_split names i name within read)
        ∙ items_at-append new (take i names) (name ∷ drop (suc i) names)
        ∙ ap (λ items. items ++ items_at new (name ∷ drop (suc i) names)) front
        ∙ ap (λ node. take i (items_at store names) ++ before node (items_at new (drop (suc i) names))) change.changed
        ∙ ap (λ items. take i (items_at store names) ++ item ∷ items) behind
        ∙ sym (set_split (items_at store names) i item (omega (arith, within, len)))

    abbrev made : (items : List T) (kept places : ℕ) → Named T
    made items kept places = record { items = items; names = names; spare = store.rooms; kept = kept; places = places }

    pub named_of-with_node : (capacity : ℕ) → IsNamedList store names capacity → i < length names → name ≡ get_or names i name → named_of (with_node store name item) names capacity ≡ with_item (named_of store names capacity) i item
    named_of-with_node capacity is within read =
        ap (λ slots. made (items_at (with_node store name item) names) (slots + (store.rooms + (length names + (length names + store.rooms) / ring_names))) capacity) (length-set store.slots name (Some item))
        ∙ ap (λ items. made items (length store.slots + (store.rooms + (length names + (length names + store.rooms) / ring_names))) capacity) (items_edit capacity is within read)
