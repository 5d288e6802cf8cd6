-- A trie in a store changes at an EID.
use Rattle.std.proofs.Common.{◌≡◌, ℕ, ◌+◌, ◌%◌, ◌<◌, ◌==◌, ◌||◌, Bool, true, false, not, List, [], ◌∷◌, ◌++◌, length, All, Option, Some, None, is_some, inl, inr, subst, refl, sym, ap, ◌∙◌, arith}
use Rattle.std.proofs.lemmas.List.{append-nil}
use Rattle.std.proofs.lemmas.Bool.{cases_Bool}
use Rattle.std.proofs.lemmas.List.Elements.{All-nil, All-append, All-head, All-tail}
use Rattle.mapping_records.specs.declared.eid.Eid.{Eid}
use Rattle.mapping_records.specs.Eids.{covers_eid}
use Rattle.node_store.specs.Store.{Store, node_at, Changes}
use Rattle.prefix_table.specs.declared.node.Node.{Node}
use Rattle.prefix_table.specs.declared.node.Sides.{Sides}
use Rattle.prefix_table.specs.Keys.{key_width, key_len, key_bits}
use Rattle.prefix_table.specs.Sides.{bit_of, sides, on_side}
use Rattle.prefix_table.specs.Tree.{Tree, pair_of, pairs, size, Fits, IsTrie, IsSomething, Branches, side_bits}
use Rattle.prefix_table.specs.Tree.Tree.{none, node}
use Rattle.prefix_table.specs.Pairs.{is_below, with_pair, without_pair, value_in}
use Rattle.prefix_table.specs.Spelled.{name_of, Spells}
use Rattle.prefix_table.specs.Edited.{Uses, Edited}
use Rattle.prefix_table.proofs.Bits.{Covers, covers_trans, below_covers, side_fits}
use Rattle.prefix_table.proofs.ForkLemmas.{bit_small, sides_differ, spread, spread-empty, fork, name-fork, size-fork, pairs-fork, uses-own, uses-near, spells-fork, trie-fork, Top, named_sides, Spells-top, IsTrie-top}
use Rattle.prefix_table.proofs.LongestLemmas.{OnPair-all, All-pairs, each_fits, side_at}
use Rattle.prefix_table.proofs.OrderLemmas.{Same, Lt-covers, IsBefore, IsAfter, without_pair-before}
use Rattle.prefix_table.proofs.TopLemmas.{spells_kept, apart, sides_apart, fresh_keeps, IsLocal, with_pair-local, change-spread, value_in-spread, across, own_before, all_missed, value_missed, with_pair-first, value_in-first, same_self, side_after, value_there}

-- a new leaf
abbrev pub leaf : {V : Type 0} → Eid → V → Node V
leaf eid value = record { eid = eid; value = Some value; next = record { zero = None; one = None } }

-- a list in which the EID's key isn't stays
pub without_pair-missing : {V : Type 0} (eid : Eid) (l : List (Eid × V)) → All (λ pair. Same pair.0 eid → ⊥) l → without_pair eid l ≡ l
without_pair-missing eid [] missing = refl
without_pair-missing {V} eid ((key, old) ∷ l) missing =
    let P = λ (pair : Eid × V). Same pair.0 eid → ⊥ in
    elim (cases_Bool (is_below key eid)) [
      | inl below ↦ rw (below) (ap (λ l. (key, old) ∷ l) (without_pair-missing eid l (All-tail P (key, old) l missing)))
      | inr not_below ↦
          elim (cases_Bool (is_below eid key)) [
            | inl above ↦ rw (not_below, above) refl
            | inr not_above ↦ absurd (All-head P (key, old) l missing (record { not_below = not_below; not_above = not_above }))
          ]
    ]

-- a node branches still, where it has a value, or a side that has a name
branches_now : {V : Type 0} (value : Option V) (near far made : Tree V) (below : Option ℕ) → Branches value near far → name_of made ≡ below → (is_some value || is_some below) ≡ true → Branches value made far
branches_now (Some v) near far made below b named is = tt
branches_now None near far none below b named is = absurd (cc (ap is_some named, is))
branches_now None near far (node name key v l h) below b named is = (tt, b.1)

neither : (a b : Bool) → (a || b) ≡ false → (a ≡ false) × (b ≡ false)
neither false b is = (refl, is)
neither true b is = absurd (cc (is))

pub none_from_test : {X : Type 0} (o : Option X) → is_some o ≡ false → o ≡ None
none_from_test None is = refl
none_from_test (Some x) is = absurd (cc (is))

module _ {V : Type 0} where
  pub nothing_named : (tree : Tree V) → name_of tree ≡ None → tree ≡ none
  nothing_named none is = refl
  nothing_named (node name key value low high) is = absurd (cc (is))

  pub something_named : (tree : Tree V) → is_some (name_of tree) ≡ true → IsSomething tree
  something_named none is = absurd (cc (is))
  something_named (node name key value low high) is = tt

  no_value : (key : Eid) (v : Option V) → is_some v ≡ false → pair_of key v ≡ []
  no_value key None is = refl
  no_value key (Some v) is = absurd (cc (is))

  -- an EID's own pair is the first
  pub replaced : (eid : Eid) (value : V) (v : Option V) (ys : List (Eid × V)) → All (IsAfter eid) ys → with_pair eid value (pair_of eid v ++ ys) ≡ (eid, value) ∷ ys
  replaced eid value None ys after = with_pair-first eid value ys after
  replaced eid value (Some v) ys after = let s = same_self eid in rw (s.not_below) refl

  pub removed : (eid : Eid) (v : Option V) (ys : List (Eid × V)) → All (IsAfter eid) ys → without_pair eid (pair_of eid v ++ ys) ≡ ys
  removed eid None ys after = without_pair-before eid [] ys after
  removed eid (Some v) ys after = let s = same_self eid in rw (s.not_below) refl

  -- what is a trie on a side of a key is one where the key's own trie is
  lifted : (tree : Tree V) (key : Eid) (iid width bits len side : ℕ) → side < 2 → Fits iid width bits len key → IsTrie iid width (side_bits key side) (key_len key + 1) tree → IsTrie iid width bits len tree
  lifted none key iid width bits len side bit fits trie = tt
  lifted (node name k v low high) key iid width bits len side bit fits trie = (side_fits key k iid width bits len side bit fits trie.0, trie.1, trie.2, trie.3)

  -- a leaf where there was no node
  pub edited_leaf : (old new : Store (Node V)) (name bits len : ℕ) (eid : Eid) (value : V) → node_at old name ≡ None → Changes old new name (Some (leaf eid value)) → Fits eid.iid (key_width eid) bits len eid → old.rooms ≡ new.rooms + 1 → length new.slots ≡ length old.slots → Edited old new (with_pair eid value) bits len eid none (Some name) None
  edited_leaf old new name bits len eid value fresh changes fits rooms slots = record {
    tree = node name eid (Some value) none none;
    named = refl;
    spelled = (changes.changed, tt, tt);
    trie = (fits, tt, tt, tt);
    list = refl;
    found = refl;
    kept = λ n top found unused. fresh_keeps old new name _ fresh changes n top found;
    rooms = omega (arith, rooms);
    slots = slots;
  }

  -- what is on a side of a node stays, where only the node changes
  side_stays : (old new : Store (Node V)) (at : ℕ) (top : Node V) (iid width side : ℕ) (tree : Tree V) (made : Option (Node V)) → node_at old at ≡ Some top → Spells old tree → IsTrie iid width (side_bits top.eid side) (key_len top.eid + 1) tree → Changes old new at made → Spells new tree
  side_stays old new at top iid width side tree made found spelled trie changes =
      let not_here = apart old tree at iid width (side_bits top.eid side) (key_len top.eid + 1) top spelled trie found (omega arith) in
      spells_kept old new tree spelled (λ n nd used there. changes.others n (λ same. not_here (subst (λ (m : ℕ). Uses m tree) same used)) ∙ there)

  -- where only a side of a node changes, the node stays
  pub node_kept : (old mid : Store (Node V)) (change : List (Eid × V) → List (Eid × V)) (at : ℕ) (top : Node V) (eid : Eid) (bits len : ℕ) (side : Bool) (near far : Tree V) (below : Option ℕ) (was : Option V) → Top old at top eid bits len side near far → Edited old mid change (side_bits top.eid (bit_of side)) (key_len top.eid + 1) eid near below was → node_at mid at ≡ Some top
  node_kept old mid change at top eid bits len side near far below was t g =
      g.kept at top t.found (apart old near at eid.iid (key_width eid) (side_bits top.eid (bit_of side)) (key_len top.eid + 1) top t.near_spelled t.near_trie t.found (omega arith))

  -- the pairs changed on the side where the EID is
  module _ (old mid new : Store (Node V)) (change : List (Eid × V) → List (Eid × V)) (at : ℕ) (top : Node V) (eid : Eid) (bits len : ℕ) (side : Bool) (near far : Tree V) (below : Option ℕ) (was : Option V) (leaves : IsLocal eid change) (t : Top old at top eid bits len side near far) (c : Covers top.eid eid) (shorter : key_len top.eid < key_len eid) (on : key_bits eid (key_len top.eid + 1) ≡ side_bits top.eid (bit_of side)) (g : Edited old mid change (side_bits top.eid (bit_of side)) (key_len top.eid + 1) eid near below was) where
    list_on : spread side (pair_of top.eid top.value) (pairs g.tree) (pairs far) ≡ change (pairs (fork side at top.eid top.value near far))
    list_on =
        ap (λ l. spread side (pair_of top.eid top.value) l (pairs far)) g.list
        ∙ sym (ap change (pairs-fork at top.eid top.value near far side) ∙ change-spread eid (pair_of top.eid top.value) (pairs near) (pairs far) (own_before top.eid eid top.value c shorter) change leaves side (across far top.eid eid (key_len top.eid + 1) side t.far_trie on))

    found_on : was ≡ value_in eid (pairs (fork side at top.eid top.value near far))
    found_on =
        g.found
        ∙ sym (ap (value_in eid) (pairs-fork at top.eid top.value near far side) ∙ value_in-spread eid (pair_of top.eid top.value) (pairs near) (pairs far) (own_before top.eid eid top.value c shorter) side (across far top.eid eid (key_len top.eid + 1) side t.far_trie on))

    -- the other side stays
    far_stays : (made : Option (Node V)) → Changes mid new at made → Spells new far
    far_stays made changes =
        let not_far = apart old far at eid.iid (key_width eid) (side_bits top.eid (bit_of (not side))) (key_len top.eid + 1) top t.far_spelled t.far_trie t.found (omega arith) in
        spells_kept old new far t.far_spelled (λ n nd used found. changes.others n (λ same. not_far (subst (λ (m : ℕ). Uses m far) same used)) ∙ g.kept n nd found (λ in_near. sides_apart old near far n eid.iid (key_width eid) (side_bits top.eid (bit_of side)) (side_bits top.eid (bit_of (not side))) (key_len top.eid + 1) t.near_spelled t.far_spelled t.near_trie t.far_trie (sides_differ top.eid side) in_near used))

    others_stay : (made : Option (Node V)) → Changes mid new at made → (n : ℕ) (nd : Node V) → node_at old n ≡ Some nd → (Uses n (fork side at top.eid top.value near far) → ⊥) → node_at new n ≡ Some nd
    others_stay made changes n nd found unused =
        changes.others n (λ same. unused (uses-own at top.eid top.value near far side n same))
        ∙ g.kept n nd found (λ in_near. unused (uses-near at top.eid top.value near far side n in_near))

    -- the node stays, and names the trie that is there now
    pub edited_on : Changes mid new at (Some (record top { next = sides side below (on_side (not side) top.next) })) → (is_some top.value || is_some below) ≡ true → new.rooms ≡ mid.rooms → length new.slots ≡ length mid.slots → Edited old new change bits len eid (fork side at top.eid top.value near far) (Some at) was
    edited_on changes stands rooms slots = record {
      tree = fork side at top.eid top.value g.tree far;
      named = name-fork at top.eid top.value g.tree far side;
      spelled =
          spells-fork at top.eid top.value g.tree far new side (rw (g.named, t.far_named) changes.changed) (side_stays mid new at top eid.iid (key_width eid) (bit_of side) g.tree _ (node_kept old mid change at top eid bits len side near far below was t g) g.spelled g.trie changes) (far_stays _ changes);
      trie =
          trie-fork at top.eid top.value g.tree far side eid.iid (key_width eid) bits len t.fits g.trie t.far_trie (branches_now top.value near far g.tree below t.branches g.named stands);
      list = pairs-fork at top.eid top.value g.tree far side ∙ list_on;
      found = found_on;
      kept = others_stay _ changes;
      rooms = omega (arith, g.rooms, rooms, size-fork at top.eid top.value near far side, size-fork at top.eid top.value g.tree far side);
      slots = slots ∙ g.slots;
    }

    -- the node goes, since it has no value and no node is left on that side
    pub edited_gone : Changes mid new at None → (is_some top.value || is_some below) ≡ false → new.rooms ≡ mid.rooms + 1 → length new.slots ≡ length mid.slots → Edited old new change bits len eid (fork side at top.eid top.value near far) (on_side (not side) top.next) was
    edited_gone changes falls rooms slots =
        let parts = neither (is_some top.value) (is_some below) falls in
        let is : g.tree ≡ none = nothing_named g.tree (g.named ∙ none_from_test below parts.1) in
        let no_size : size g.tree ≡ 0 = ap size is in
        record {
          tree = far;
          named = t.far_named;
          spelled = far_stays _ changes;
          trie = lifted far top.eid eid.iid (key_width eid) bits len (bit_of (not side)) (bit_small (not side)) t.fits t.far_trie;
          list =
              sym (spread-empty side (pair_of top.eid top.value) (pairs g.tree) (pairs far) (ap pairs is) ∙ ap (λ l. l ++ pairs far) (no_value top.eid top.value parts.0)) ∙ list_on;
          found = found_on;
          kept = others_stay _ changes;
          rooms = omega (arith, g.rooms, rooms, no_size, size-fork at top.eid top.value near far side);
          slots = slots ∙ g.slots;
        }

  -- the EID is the key of a node
  module _ (old new : Store (Node V)) (at : ℕ) (top : Node V) (eid : Eid) (bits len : ℕ) (side : Bool) (near far : Tree V) (t : Top old at top eid bits len side near far) (key_is : top.eid ≡ eid) (slots : length new.slots ≡ length old.slots) where
    after_own : All (IsAfter eid) (pairs near) × All (IsAfter eid) (pairs far)
    after_own = subst (λ (k : Eid). All (IsAfter k) (pairs near) × All (IsAfter k) (pairs far)) key_is (
      side_after near top.eid eid.iid (key_width eid) (bit_of side) (bit_small side) (t.fits).same_iid (t.fits).same_width t.near_trie,
      side_after far top.eid eid.iid (key_width eid) (bit_of (not side)) (bit_small (not side)) (t.fits).same_iid (t.fits).same_width t.far_trie,
    )

    spread_after : (side : Bool) → All (IsAfter eid) (spread side [] (pairs near) (pairs far))
    spread_after false = All-append (IsAfter eid) (pairs near) (pairs far) after_own.0 after_own.1
    spread_after true = All-append (IsAfter eid) (pairs far) (pairs near) after_own.1 after_own.0

    spread-own : (side : Bool) (own : List (Eid × V)) → spread side own (pairs near) (pairs far) ≡ own ++ spread side [] (pairs near) (pairs far)
    spread-own false own = refl
    spread-own true own = refl

    pairs_are : (v : Option V) → pairs (fork side at top.eid v near far) ≡ pair_of eid v ++ spread side [] (pairs near) (pairs far)
    pairs_are v =
        pairs-fork at top.eid v near far side ∙ spread-own side (pair_of top.eid v) ∙ ap (λ (k : Eid). pair_of k v ++ spread side [] (pairs near) (pairs far)) key_is

    was_there : top.value ≡ value_in eid (pairs (fork side at top.eid top.value near far))
    was_there = sym (ap (value_in eid) (pairs_are top.value) ∙ value_there eid top.value (spread side [] (pairs near) (pairs far)) (spread_after side))

    others_kept : (made : Option (Node V)) → Changes old new at made → (n : ℕ) (nd : Node V) → node_at old n ≡ Some nd → (Uses n (fork side at top.eid top.value near far) → ⊥) → node_at new n ≡ Some nd
    others_kept made changes n nd found unused =
        changes.others n (λ same. unused (uses-own at top.eid top.value near far side n same)) ∙ found

    -- the node gets another value, or none
    pub edited_own : (change : List (Eid × V) → List (Eid × V)) (made : Option V) → ((v : Option V) (ys : List (Eid × V)) → All (IsAfter eid) ys → change (pair_of eid v ++ ys) ≡ pair_of eid made ++ ys) → Branches made near far → Changes old new at (Some (record top { value = made })) → new.rooms ≡ old.rooms → Edited old new change bits len eid (fork side at top.eid top.value near far) (Some at) top.value
    edited_own change made changed branches changes rooms =
        let stays = λ (next : Bool) (tree : Tree V) (spelled : Spells old tree) (trie : IsTrie eid.iid (key_width eid) (side_bits top.eid (bit_of next)) (key_len top.eid + 1) tree). side_stays old new at top eid.iid (key_width eid) (bit_of next) tree _ t.found spelled trie changes in
        record {
          tree = fork side at top.eid made near far;
          named = name-fork at top.eid made near far side;
          spelled = spells-fork at top.eid made near far new side (changes.changed ∙ ap (λ (n : Sides (Option ℕ)). Some (record top { value = made; next = n })) (sym (named_sides old at top eid bits len side near far t))) (stays side near t.near_spelled t.near_trie) (stays (not side) far t.far_spelled t.far_trie);
          trie = trie-fork at top.eid made near far side eid.iid (key_width eid) bits len t.fits t.near_trie t.far_trie branches;
          list =
              pairs_are made
              ∙ sym (ap change (pairs_are top.value) ∙ changed top.value (spread side [] (pairs near) (pairs far)) (spread_after side));
          found = was_there;
          kept = others_kept _ changes;
          rooms = omega (arith, rooms, size-fork at top.eid top.value near far side, size-fork at top.eid made near far side);
          slots = slots;
        }

    -- the node goes, since no node is on a side of it
    pub edited_dropped : on_side side top.next ≡ None → Changes old new at None → new.rooms ≡ old.rooms + 1 → Edited old new (without_pair eid) bits len eid (fork side at top.eid top.value near far) (on_side (not side) top.next) top.value
    edited_dropped empty changes rooms =
        let is : near ≡ none = nothing_named near (t.near_named ∙ empty) in
        let no_size : size near ≡ 0 = ap size is in
        record {
          tree = far;
          named = t.far_named;
          spelled = side_stays old new at top eid.iid (key_width eid) (bit_of (not side)) far _ t.found t.far_spelled t.far_trie changes;
          trie = lifted far top.eid eid.iid (key_width eid) bits len (bit_of (not side)) (bit_small (not side)) t.fits t.far_trie;
          list =
              sym (ap (without_pair eid) (pairs_are top.value) ∙ removed eid top.value (spread side [] (pairs near) (pairs far)) (spread_after side) ∙ spread-empty side [] (pairs near) (pairs far) (ap pairs is));
          found = was_there;
          kept = others_kept _ changes;
          rooms = omega (arith, rooms, no_size, size-fork at top.eid top.value near far side);
          slots = slots;
        }

  -- the EID isn't there, since the node's key doesn't cover it
  pub edited_missed : (old : Store (Node V)) (at : ℕ) (top : Node V) (eid : Eid) (bits len : ℕ) (low high : Tree V) → Top old at top eid bits len false low high → covers_eid top.eid eid ≡ false → Edited old old (without_pair eid) bits len eid (node at top.eid top.value low high) (Some at) None
  edited_missed old at top eid bits len low high t missed = record {
    tree = node at top.eid top.value low high;
    named = refl;
    spelled = Spells-top old at top eid bits len false low high t;
    trie = IsTrie-top old at top eid bits len false low high t;
    list = sym (without_pair-missing eid (pairs (node at top.eid top.value low high)) (all_missed old at top eid bits len low high t missed));
    found = sym (value_missed old at top eid bits len low high t missed);
    kept = λ n nd found unused. found;
    rooms = refl;
    slots = refl;
  }

  -- a trie, whose top moves below a new node
  module _ (old : Store (Node V)) (at : ℕ) (top : Node V) (eid : Eid) (bits len : ℕ) (low high : Tree V) (t : Top old at top eid bits len false low high) where
    abbrev whole : Tree V
    whole = node at top.eid top.value low high

    -- all its keys are after an EID that covers its top
    all_after : Covers eid top.eid → key_len eid < key_len top.eid → All (IsAfter eid) (pairs whole)
    all_after c shorter =
        let below = λ (k : Eid) (side : ℕ) (bit : side < 2) (fits : Fits eid.iid (key_width eid) (side_bits top.eid side) (key_len top.eid + 1) k).
        let ck = below_covers top.eid k eid.iid (key_width eid) side bit (t.fits).same_iid (t.fits).same_width fits in
        Lt-covers eid k (covers_trans eid top.eid k c ck) (omega (arith, shorter, ck.shorter)) in
        All-pairs (IsAfter eid) whole (
          OnPair-all (IsAfter eid) top.eid top.value (λ v. Lt-covers eid top.eid c shorter),
          each_fits (IsAfter eid) low eid.iid (key_width eid) (side_bits top.eid 0) (key_len top.eid + 1) t.near_trie (λ k v fits. below k 0 (omega arith) fits),
          each_fits (IsAfter eid) high eid.iid (key_width eid) (side_bits top.eid 1) (key_len top.eid + 1) t.far_trie (λ k v fits. below k 1 (omega arith) fits),
        )

    -- a trie is on a side of each key that covers its top
    moved : (over : Eid) (side : Bool) → Covers over top.eid → key_len over < key_len top.eid → (key_bits top.eid (key_len over + 1) % 2 == 1) ≡ side → IsTrie eid.iid (key_width eid) (side_bits over (bit_of side)) (key_len over + 1) whole
    moved over side c shorter bit = (
      record { same_iid = (t.fits).same_iid; same_width = (t.fits).same_width; longer = omega (arith, shorter); front = side_at over top.eid side c shorter bit },
      t.near_trie,
      t.far_trie,
      t.branches,
    )

    stays_spelled : (new : Store (Node V)) → ((n : ℕ) (nd : Node V) → node_at old n ≡ Some nd → node_at new n ≡ Some nd) → Spells new whole
    stays_spelled new keeps =
        spells_kept old new whole (Spells-top old at top eid bits len false low high t) (λ n nd used found. keeps n nd found)

    -- a new node above the top, which it covers
    pub edited_above : (new : Store (Node V)) (name : ℕ) (value : V) (side : Bool) → Fits eid.iid (key_width eid) bits len eid → Covers eid top.eid → key_len eid < key_len top.eid → (key_bits top.eid (key_len eid + 1) % 2 == 1) ≡ side → node_at old name ≡ None → Changes old new name (Some (record { eid = eid; value = Some value; next = sides side (Some at) None })) → old.rooms ≡ new.rooms + 1 → length new.slots ≡ length old.slots → Edited old new (with_pair eid value) bits len eid whole (Some name) None
    edited_above new name value side fits c shorter bit fresh changes rooms slots =
        let keeps = fresh_keeps old new name _ fresh changes in
        let after = all_after c shorter in
        record {
          tree = fork side name eid (Some value) whole none;
          named = name-fork name eid (Some value) whole none side;
          spelled = spells-fork name eid (Some value) whole none new side changes.changed (stays_spelled new keeps) tt;
          trie = trie-fork name eid (Some value) whole none side eid.iid (key_width eid) bits len fits (moved eid side c shorter bit) tt tt;
          list = alone side ∙ sym (with_pair-first eid value (pairs whole) after);
          found = sym (value_in-first eid (pairs whole) after);
          kept = λ n nd found unused. keeps n nd found;
          rooms = omega (arith, rooms, size-fork name eid (Some value) whole none side);
          slots = slots;
        }
      where
        alone : (side : Bool) → pairs (fork side name eid (Some value) whole none) ≡ (eid, value) ∷ pairs whole
        alone false = ap (λ l. (eid, value) ∷ l) (append-nil (pairs whole))
        alone true = refl

    -- a node without a value above the top and a new leaf, at the first bit in which they differ
    pub edited_beside : (mid new : Store (Node V)) (leaf_name name : ℕ) (over : Eid) (value : V) (side : Bool) → Fits eid.iid (key_width eid) bits len eid → Fits eid.iid (key_width eid) bits len over → Covers over eid → Covers over top.eid → key_len over < key_len eid → key_len over < key_len top.eid → (key_bits eid (key_len over + 1) % 2 == 1) ≡ side → (key_bits top.eid (key_len over + 1) % 2 == 1) ≡ not side → node_at old leaf_name ≡ None → Changes old mid leaf_name (Some (leaf eid value)) → node_at mid name ≡ None → Changes mid new name (Some (record { eid = over; value = None; next = sides side (Some leaf_name) (Some at) })) → old.rooms ≡ new.rooms + 2 → length new.slots ≡ length old.slots → Edited old new (with_pair eid value) bits len eid whole (Some name) None
    edited_beside mid new leaf_name name over value side fits fits_over c_eid c_top shorter_eid shorter_top bit other fresh_leaf made_leaf fresh changes rooms slots =
        let keeps = λ (n : ℕ) (nd : Node V) (found : node_at old n ≡ Some nd). fresh_keeps mid new name _ fresh changes n nd (fresh_keeps old mid leaf_name _ fresh_leaf made_leaf n nd found) in
        let there : node_at new leaf_name ≡ Some (leaf eid value) = fresh_keeps mid new name _ fresh changes leaf_name _ made_leaf.changed in
        let on_eid = side_at over eid side c_eid shorter_eid bit in
        let trie_top = moved over (not side) c_top shorter_top other in
        let apart_top = across whole over eid (key_len over + 1) side trie_top on_eid in
        let new_leaf : Tree V = node leaf_name eid (Some value) none none in
        let alone : spread side [] [] (pairs whole) ≡ pairs whole = spread-empty side [] [] (pairs whole) refl in
        let nil = All-nil (IsBefore eid) in
        record {
          tree = fork side name over None new_leaf whole;
          named = name-fork name over None new_leaf whole side;
          spelled = spells-fork name over None new_leaf whole new side changes.changed (there, tt, tt) (stays_spelled new keeps);
          trie =
              trie-fork name over None new_leaf whole side eid.iid (key_width eid) bits len fits_over (record { same_iid = fits.same_iid; same_width = fits.same_width; longer = omega (arith, shorter_eid); front = on_eid }, tt, tt, tt) trie_top (tt, tt);
          list =
              pairs-fork name over None new_leaf whole side
              ∙ sym (ap (with_pair eid value) (sym alone) ∙ change-spread eid [] [] (pairs whole) nil (with_pair eid value) (with_pair-local eid value) side apart_top);
          found = sym (ap (value_in eid) (sym alone) ∙ value_in-spread eid [] [] (pairs whole) nil side apart_top);
          kept = λ n nd found unused. keeps n nd found;
          rooms = omega (arith, rooms, size-fork name over None new_leaf whole side);
          slots = slots;
        }
