-- Items in ascending order of their keys.
use Rattle.std.proofs.Common.{◌≡◌, suc, ◌+◌, ◌≤◌, List, [], ◌∷◌, ◌++◌, length, map, fold, All, Ordering, Less, Equal, Greater, refl, sym, ap, subst, ◌∙◌, arith, append_assoc, append-nil}
use Rattle.std.proofs.lemmas.Cmp.{alike_right, tied_back, tied_itself}
use Rattle.std.proofs.lemmas.List.Elements.{All-nil, All-head, All-tail, All-weaker, All-from_recursion, recursion_from_All}
use Rattle.std.proofs.lemmas.Map.Entries.{length-values_of}
use Rattle.std.proofs.lemmas.Map.Views.{All-keys-insert_entry, All-values-insert_entry}
use Rattle.std.specs.BTreeMap.{insert_entry}
use Rattle.std.specs.Cmp.{IsTotalOrder}
use Rattle.std.specs.List.{AllByRecursion}
use Rattle.std.specs.List.Sorted.{IsStrictlySortedBy}
use Rattle.std.specs.Map.{keys_of, values_of}
use Rattle.std.specs.Ordering.{match_ordering, ordering_reverse}
use Rattle.lisp_settings.specs.Lists.{ascending}

module _ {A K : Type 0} (key : A → K) (order : K → K → Ordering) where
  -- the entries with one more item
  abbrev pub entered : List (K × A) → A → List (K × A)
  entered entries next = insert_entry order entries (key next) next

  -- one entry more at most
  insert_entry-length : (es : List (K × A)) (k : K) (v : A) → (length es ≤ length (insert_entry order es k v)) × (length (insert_entry order es k v) ≤ suc (length es))
  insert_entry-length [] k v = (omega arith, omega arith)
  insert_entry-length (e ∷ es) k v = by (order k e.0) (insert_entry-length es k v)
    where
      by : (r : Ordering) → (length es ≤ length (insert_entry order es k v)) × (length (insert_entry order es k v) ≤ suc (length es)) → (suc (length es) ≤ length (match_ordering r ((k, v) ∷ e ∷ es) ((e.0, v) ∷ es) (e ∷ insert_entry order es k v))) × (length (match_ordering r ((k, v) ∷ e ∷ es) ((e.0, v) ∷ es) (e ∷ insert_entry order es k v)) ≤ suc (suc (length es)))
      by Less h = (omega arith, omega arith)
      by Equal h = (omega arith, omega arith)
      by Greater h = (omega (arith, h.0), omega (arith, h.1))

  entered-length : (es : List (K × A)) (items : List A) → (length es ≤ length (fold entered es items)) × (length (fold entered es items) ≤ length es + length items)
  entered-length es [] = (omega arith, omega arith)
  entered-length es (next ∷ more) =
      let one = insert_entry-length es (key next) next in
      let rest = entered-length (entered es next) more in
      (omega (arith, one.0, rest.0), omega (arith, one.1, rest.1))

  entered-all : (P : A → Type 0) (es : List (K × A)) (items : List A) → All P (values_of es) → All P items → All P (values_of (fold entered es items))
  entered-all P es [] all more = all
  entered-all P es (next ∷ items) all more =
      entered-all P (entered es next) items (All-values-insert_entry order (key next) next P es all (All-head P next items more)) (All-tail P next items more)

  -- no more than there were
  pub ascending-few : (items : List A) → length (ascending key order items) ≤ length items
  ascending-few items = omega (arith, length-values_of (fold entered [] items), (entered-length [] items).1)

  -- one at least, where there was one
  pub ascending-some : (items : List A) → 1 ≤ length items → 1 ≤ length (ascending key order items)
  ascending-some [] some = absurd (omega (arith, some))
  ascending-some (first ∷ more) some = omega (arith, length-values_of (fold entered [] (first ∷ more)), (entered-length ((key first, first) ∷ []) more).0)

  -- what held of each still does
  pub ascending-all : (P : A → Type 0) (items : List A) → All P items → All P (ascending key order items)
  ascending-all P items all = entered-all P [] items (All-nil P) all

  module _ (total : IsTotalOrder order) where
    insert_entry-sorted : (es : List (K × A)) (k : K) (v : A) → IsStrictlySortedBy order (keys_of es) → IsStrictlySortedBy order (keys_of (insert_entry order es k v))
    unfolding IsStrictlySortedBy
    insert_entry-sorted [] k v sorted = (tt, tt)
    insert_entry-sorted (e ∷ es) k v sorted = by (order k e.0) refl (All-from_recursion (λ y. order e.0 y ≡ Less) (keys_of es) sorted.0) (insert_entry-sorted es k v sorted.1)
      where
        by : (r : Ordering) → order k e.0 ≡ r → All (λ y. order e.0 y ≡ Less) (keys_of es) → IsStrictlySortedBy order (keys_of (insert_entry order es k v)) → IsStrictlySortedBy order (keys_of (match_ordering r ((k, v) ∷ e ∷ es) ((e.0, v) ∷ es) (e ∷ insert_entry order es k v)))
        by Less less above rest = ((less, recursion_from_All (λ y. order k y ≡ Less) (keys_of es) (All-weaker (λ y. order e.0 y ≡ Less) (λ y. order k y ≡ Less) (λ y later. total.trans k e.0 y less later) (keys_of es) above)), sorted)
        by Equal same above rest = sorted
        by Greater greater above rest = (recursion_from_All (λ y. order e.0 y ≡ Less) (keys_of (insert_entry order es k v)) (All-keys-insert_entry order k v (λ y. order e.0 y ≡ Less) es above (total.antisymm e.0 k ∙ ap ordering_reverse greater)), rest)

    -- each entry's key is its item's, up to the order
    abbrev pub AreTied : List (K × A) → Type 0
    AreTied es = AllByRecursion (λ e. order e.0 (key e.1) ≡ Equal) es

    pub entered-tied : (es : List (K × A)) (v : A) → AreTied es → AreTied (entered es v)
    entered-tied [] v tied = (tied_itself total (key v), tt)
    entered-tied (e ∷ es) v tied = by (order (key v) e.0) refl (entered-tied es v tied.1)
      where
        by : (r : Ordering) → order (key v) e.0 ≡ r → AreTied (entered es v) → AreTied (match_ordering r ((key v, v) ∷ e ∷ es) ((e.0, v) ∷ es) (e ∷ insert_entry order es (key v) v))
        by Less less rest = (tied_itself total (key v), tied)
        by Equal same rest = (tied_back total (key v) e.0 same, tied.1)
        by Greater greater rest = (tied.0, rest)

    above_tied : (k : K) (item : A) → order k (key item) ≡ Equal → (es : List (K × A)) → AreTied es → AllByRecursion (λ y. order k y ≡ Less) (keys_of es) → AllByRecursion (λ y. order (key item) y ≡ Less) (map key (values_of es))
    above_tied k item same [] tied above = tt
    above_tied k item same (e ∷ es) tied above =
        (sym (total.congr k (key item) (key e.1) same) ∙ sym (alike_right total e.0 (key e.1) k tied.0) ∙ above.0, above_tied k item same es tied.1 above.1)

    sorted_values : (es : List (K × A)) → AreTied es → IsStrictlySortedBy order (keys_of es) → IsStrictlySortedBy order (map key (values_of es))
    unfolding IsStrictlySortedBy
    sorted_values [] tied sorted = tt
    sorted_values (e ∷ es) tied sorted = (above_tied e.0 e.1 tied.0 es tied.1 sorted.0, sorted_values es tied.1 sorted.1)

    entered-sorted : (es : List (K × A)) (items : List A) → AreTied es → IsStrictlySortedBy order (keys_of es) → IsStrictlySortedBy order (map key (values_of (fold entered es items)))
    entered-sorted es [] tied sorted = sorted_values es tied sorted
    entered-sorted es (next ∷ more) tied sorted = entered-sorted (entered es next) more (entered-tied es next tied) (insert_entry-sorted es (key next) next sorted)

    -- each key is below those after it
    pub ascending-sorted : (items : List A) → IsStrictlySortedBy order (map key (ascending key order items))
    unfolding IsStrictlySortedBy
    ascending-sorted items = entered-sorted [] items tt tt

    -- each item under its own key
    abbrev paired : List A → List (K × A)
    paired items = map (λ item. (key item, item)) items

    values_of-paired : (items : List A) → values_of (paired items) ≡ items
    values_of-paired [] = refl
    values_of-paired (item ∷ items) = ap (λ l. item ∷ l) (values_of-paired items)

    below_middle : (k : K) (done : List A) (next : A) (more : List A) → AllByRecursion (λ y. order k y ≡ Less) (map key (done ++ next ∷ more)) → order k (key next) ≡ Less
    below_middle k [] next more below = below.0
    below_middle k (first ∷ done) next more below = below_middle k done next more below.1

    -- a key above all others goes last
    entered_last : (done : List A) (next : A) (more : List A) → IsStrictlySortedBy order (map key (done ++ next ∷ more)) → entered (paired done) next ≡ paired (done ++ next ∷ [])
    unfolding IsStrictlySortedBy
    entered_last [] next more sorted = refl
    entered_last (first ∷ done) next more sorted =
        let above : order (key next) (key first) ≡ Greater = total.antisymm (key next) (key first) ∙ ap ordering_reverse (below_middle (key first) done next more sorted.0) in
        rw above (ap (λ l. (key first, first) ∷ l) (entered_last done next more sorted.1))

    entered-kept : (done items : List A) → IsStrictlySortedBy order (map key (done ++ items)) → fold entered (paired done) items ≡ paired (done ++ items)
    entered-kept done [] sorted = ap paired (sym (append-nil done))
    entered-kept done (next ∷ more) sorted =
        let moved : (done ++ next ∷ []) ++ more ≡ done ++ next ∷ more = append_assoc done (next ∷ []) more in
        ap (λ es. fold entered es more) (entered_last done next more sorted)
        ∙ entered-kept (done ++ next ∷ []) more (subst (λ l. IsStrictlySortedBy order (map key l)) (sym moved) sorted)
        ∙ ap paired moved

    -- items whose keys ascend stay
    pub ascending-of_sorted : (items : List A) → IsStrictlySortedBy order (map key items) → ascending key order items ≡ items
    ascending-of_sorted items sorted = ap values_of (entered-kept [] items sorted) ∙ values_of-paired items
