-- A search on its way down past nodes whose keys it doesn't compare.
use Rattle.std.proofs.Common.{◌≡◌, ◌⊎◌, ℕ, ◌+◌, ◌%◌, ◌<◌, ◌≤◌, ◌==◌, Bool, true, false, Option, is_some, Some, None, inl, inr, subst, refl, sym, ap, ◌∙◌, arith}
use Rattle.mapping_records.specs.declared.eid.Eid.{Eid}
use Rattle.node_store.specs.Store.{Store, node_at}
use Rattle.std.proofs.lemmas.Bool.{cases_Bool}
use Rattle.prefix_table.specs.declared.node.Node.{Node}
use Rattle.mapping_records.specs.Eids.{covers_eid}
use Rattle.prefix_table.specs.Keys.{key_width, key_len, key_bits}
use Rattle.prefix_table.specs.Tree.{Tree, side_bits}
use Rattle.prefix_table.specs.Tree.Tree.{node}
use Rattle.prefix_table.specs.Longest.{IsRefused, After}
use Rattle.prefix_table.specs.Nodes.{linked, linked_sides, IsWayOf, IsContentOf}
use Rattle.prefix_table.specs.Sides.{on_side}
use Rattle.prefix_table.specs.declared.content.Content.{Content}
use Rattle.prefix_table.specs.declared.node.Sides.{Sides}
use Rattle.prefix_table.specs.declared.node.Way.{Way}
use Rattle.prefix_table.proofs.AfterLemmas.{after_none}
use Rattle.prefix_table.proofs.Bits.{covers_parts}
use Rattle.prefix_table.proofs.LongestLemmas.{Each, Misses, Answers, astray, longer_misses, parts}
use Rattle.prefix_table.proofs.ForkLemmas.{fork}
use Rattle.prefix_table.proofs.SearchLemmas.{Searching, known, none_left, goes_below, step, end_equal}

module _ {V : Type 0} (answers : V → Bool → Type 0) (eid : Eid) where
  -- what is known behind a look at a node: its key covers the EID, and the best pair is the one after it; or it has no
  -- value, and its key wasn't compared
  abbrev pub Looked : Option (Eid × V) → Node V → Option (Eid × V) → Type 0
  Looked best top next =
      ((covers_eid top.eid eid ≡ true) × After answers best top.eid top.value next)
      ⊎ ((top.value ≡ None) × (next ≡ best))

  pub looked_at : (content : Content V) (best : Option (Eid × V)) (top : Node V) (next : Option (Eid × V)) → IsContentOf top content → covers_eid top.eid eid ≡ true → After answers best content.eid content.value next → Looked best top next
  looked_at content best top next is covers after =
      inl (covers, subst (λ key. After answers best key top.value next) is.eid (subst (λ value. After answers best content.eid value next) is.value after))

  pub passed_by : (way : Way) (best : Option (Eid × V)) (top : Node V) → IsWayOf top way → way.valued ≡ false → Looked best top best
  passed_by way best top w empty = inr (no_value top.value (sym w.valued ∙ empty), refl)
    where
      no_value : (value : Option V) → is_some value ≡ false → value ≡ None
      no_value None is = refl
      no_value (Some v) is = absurd (cc (is))

module _ {V : Type 0} (answers : V → Bool → Type 0) (eid : Eid) (store : Store (Node V)) (whole : Tree V) where
  -- a node whose key doesn't cover the EID is passed, on either side: nothing is found below it
  astray_on : (at : Option ℕ) (name : ℕ) (best : Option (Eid × V)) (start reads now : ℕ) (top : Node V) (side : Bool) → Searching answers eid store whole at best start reads → at ≡ Some name → node_at store name ≡ Some top → covers_eid top.eid eid ≡ false → now ≡ reads + 1 → Searching answers eid store whole (on_side side top.next) best start now
  astray_on at name best start reads now top side s is found missed count =
      let k = known answers eid store whole at name best start reads top side s is found in
      let misses = subst (λ (tree : Tree V). Each (Misses answers eid) tree) k.is (none_left answers eid store whole at name best start reads top s is found missed) in
      goes_below answers eid store whole at best best start reads now name top side s k count (λ result below.
      astray answers eid (fork side name top.eid top.value k.near k.far) k.near k.far top.eid top.value best result (parts answers eid side name top.eid top.value k.near k.far) misses below)

  -- the search goes on on the side of the next bit, also where it is blind
  blind_on : (at : Option ℕ) (name : ℕ) (best next : Option (Eid × V)) (start reads now : ℕ) (top : Node V) (side : Bool) → Searching answers eid store whole at best start reads → at ≡ Some name → node_at store name ≡ Some top → Looked answers eid best top next → key_len top.eid < key_len eid → (key_bits eid (key_len top.eid + 1) % 2 == 1) ≡ side → now ≡ reads + 1 → Searching answers eid store whole (on_side side top.next) next start now
  blind_on at name best next start reads now top side s is found looked shorter bit count =
      elim looked [
        | inl met ↦ step answers eid store whole at name best next start reads now top side s is found met.0 met.1 shorter bit count
        | inr empty ↦
            subst (λ (b : Option (Eid × V)). Searching answers eid store whole (on_side side top.next) b start now) (sym empty.1)
            (elim (cases_Bool (covers_eid top.eid eid)) [
              | inl covers ↦ step answers eid store whole at name best best start reads now top side s is found covers (after_none answers best top.eid top.value empty.0) shorter bit count
              | inr missed ↦ astray_on at name best start reads now top side s is found missed count
            ])
      ]

  pub blind : (at : Option ℕ) (name : ℕ) (best next : Option (Eid × V)) (start reads now : ℕ) (top : Node V) (way : Way) (below : Option ℕ) → Searching answers eid store whole at best start reads → at ≡ Some name → node_at store name ≡ Some top → Looked answers eid best top next → IsWayOf top way → way.len < key_len eid → below ≡ linked (on_side (key_bits eid (way.len + 1) % 2 == 1) way.next) → now ≡ reads + 1 → Searching answers eid store whole below next start now
  blind at name best next start reads now top way below s is found looked w shorter leads count =
      let side : Bool = key_bits eid (key_len top.eid + 1) % 2 == 1 in
      let is_below : on_side side top.next ≡ below = ap (on_side side) w.next ∙ linked_on side way.next ∙ sym (leads ∙ ap (λ n. linked (on_side (key_bits eid (n + 1) % 2 == 1) way.next)) w.len) in
      subst (λ (n : Option ℕ). Searching answers eid store whole n next start now) is_below
      (blind_on at name best next start reads now top side s is found looked (omega (arith, w.len, shorter)) refl count)
    where
      linked_on : (side : Bool) (links : Sides ℕ) → on_side side (linked_sides links) ≡ linked (on_side side links)
      linked_on false links = refl
      linked_on true links = refl

  -- below a node without a value that is as long as the EID or longer, all is longer
  end_long : (at : Option ℕ) (name : ℕ) (best : Option (Eid × V)) (start reads : ℕ) (top : Node V) → Searching answers eid store whole at best start reads → at ≡ Some name → node_at store name ≡ Some top → top.value ≡ None → key_len eid ≤ key_len top.eid → Answers answers eid whole None best
  end_long at name best start reads top s is found empty long =
      let k = known answers eid store whole at name best start reads top false s is found in
      let rest_is : s.rest ≡ node name top.eid None k.near k.far = k.is ∙ ap (λ v. node name top.eid v k.near k.far) empty in
      s.goes_on best (inl (
        refl,
        subst (Each (IsRefused answers eid)) (sym rest_is) (
          tt,
          longer_misses answers eid k.near top.eid eid.iid (key_width eid) (side_bits top.eid 0) long (k.here).near_trie,
          longer_misses answers eid k.far top.eid eid.iid (key_width eid) (side_bits top.eid 1) long (k.here).far_trie,
        ),
      ))

  -- the search ends at a node that isn't shorter than the EID
  pub end_far : (at : Option ℕ) (name : ℕ) (best next : Option (Eid × V)) (start reads : ℕ) (top : Node V) (way : Way) → Searching answers eid store whole at best start reads → at ≡ Some name → node_at store name ≡ Some top → Looked answers eid best top next → IsWayOf top way → key_len eid ≤ way.len → Answers answers eid whole None next
  end_far at name best next start reads top way s is found looked w long =
      elim looked [
        | inl met ↦
            let c = covers_parts top.eid eid met.0 in
            end_equal answers eid store whole at name best next start reads top s is found met.0 met.1 (omega (arith, c.shorter, w.len, long))
        | inr empty ↦
            subst (Answers answers eid whole None) (sym empty.1)
            (end_long at name best start reads top s is found empty.0 (omega (arith, w.len, long)))
      ]
