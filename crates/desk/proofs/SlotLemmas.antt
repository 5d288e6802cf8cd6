-- What slots have by id, and what a change of one, or one more, does to that.
use Rattle.std.proofs.Common.{◌≡◌, ℕ, eqb-true, zero, suc, ◌+◌, ◌<◌, ◌≤◌, List, [], ◌∷◌, ◌++◌, drop, length, true, false, eqb, Option, Some, None, is_some, get_or, refl, sym, ap, ◌∙◌, append_assoc, arith, slice_get, inl, inr}
use Rattle.std.specs.Option.{option_map}
use Rattle.std.proofs.Math.ListN.{set}
use Rattle.std.proofs.lemmas.Bool.{cases_Bool}
use Rattle.std.proofs.lemmas.Grind.{common_steps}
use Rattle.std.proofs.lemmas.List.{append-nil}
use Rattle.std.proofs.lemmas.Option.{slice_get-get_or}
use Rattle.desk.specs.declared.file.NamedFile.{NamedFile}
use Rattle.desk.specs.declared.slots.Slot.{Slot}
use Rattle.desk.specs.declared.slots.Slot.TheVariants.{Reading, Writing}
use Rattle.desk.specs.Shelf.{Shelf, moved, wrote}
use Rattle.desk.specs.World.{Direction, to_read, to_write, found_at, changed_at, extended, IsFresh, IsGiven}
use Rattle.desk.specs.Slots.{entry, entries_from, entries, reader_in, writer_in, direction_in, shelf_of, with_slot}
use Rattle.desk.proofs.Entries.{changed_at-same, changed_at-missing, same_id}

here : (k : ℕ) → eqb k (k + zero) ≡ true
here k = grind (arith, common_steps)

above : (k id : ℕ) → id < k → eqb k id ≡ false
above k id lt = grind (arith, common_steps)

below : (k id : ℕ) → k < id → eqb k id ≡ false
below k id lt = grind (arith, common_steps)

-- an entry of another id is passed
found_at-entry : {X : Type 0} (k id : ℕ) (o : Option X) (rest : List (ℕ × X)) → eqb k id ≡ false → found_at id (entry k o ++ rest) ≡ found_at id rest
found_at-entry k id None rest other = refl
found_at-entry k id (Some x) rest other = rw other refl

changed_at-entry : {X : Type 0} (k id : ℕ) (f : X → X) (o : Option X) (rest : List (ℕ × X)) → eqb k id ≡ false
    → changed_at id f (entry k o ++ rest) ≡ entry k o ++ changed_at id f rest
changed_at-entry k id f None rest other = refl
changed_at-entry k id f (Some x) rest other = rw other refl

-- ids that count from a later number
found_at-later : {X : Type 0} (part : Slot → Option X) (k id : ℕ) (slots : List Slot) → id < k → found_at id (entries_from part k slots) ≡ None
found_at-later part k id [] lt = refl
found_at-later part k id (slot ∷ slots) lt = found_at-entry k id (part slot) (entries_from part (suc k) slots) (above k id lt) ∙ found_at-later part (suc k) id slots (omega arith)

changed_at-later : {X : Type 0} (part : Slot → Option X) (f : X → X) (k id : ℕ) (slots : List Slot) → id < k → changed_at id f (entries_from part k slots) ≡ entries_from part k slots
changed_at-later part f k id [] lt = refl
changed_at-later part f k id (slot ∷ slots) lt =
    changed_at-entry k id f (part slot) (entries_from part (suc k) slots) (above k id lt) ∙ ap (λ rest. entry k (part slot) ++ rest) (changed_at-later part f (suc k) id slots (omega arith))

-- an id past the last
found_at-past : {X : Type 0} (part : Slot → Option X) (k id : ℕ) (slots : List Slot) → k + length slots ≤ id → found_at id (entries_from part k slots) ≡ None
found_at-past part k id [] le = refl
found_at-past part k id (slot ∷ slots) le = found_at-entry k id (part slot) (entries_from part (suc k) slots) (below k id (omega arith)) ∙ found_at-past part (suc k) id slots (omega arith)

-- the slot at a place
slot_at : (slots : List Slot) (i : ℕ) (slot : Slot) → i < length slots → slot ≡ get_or slots i slot → slice_get slots i ≡ Some slot
slot_at slots i slot lt is = slice_get-get_or slots i slot lt ∙ ap Some (sym is)

found_from : {X : Type 0} (part : Slot → Option X) (k i id : ℕ) (slot : Slot) (slots : List Slot) → id ≡ k + i → slice_get slots i ≡ Some slot → found_at id (entries_from part k slots) ≡ part slot
found_from {X = X} part k i id slot [] is at = cc
found_from {X = X} part k zero id slot (x ∷ slots) is at =
    let same : x ≡ slot = (let some : Some x ≡ Some slot = at in cc) in
    first (part x) ∙ ap part same
  where
    first : (o : Option X) → found_at id (entry k o ++ entries_from part (suc k) slots) ≡ o
    first None = found_at-later part (suc k) id slots (omega arith)
    first (Some y) = rw (is, here k) refl
found_from {X = X} part k (suc i) id slot (x ∷ slots) is at =
    found_at-entry k id (part x) (entries_from part (suc k) slots) (below k id (omega arith)) ∙ found_from part (suc k) i id slot slots (omega arith) at

changed_from : {X : Type 0} (part : Slot → Option X) (f : X → X) (k i id : ℕ) (old new : Slot) (slots : List Slot) → id ≡ k + i → slice_get slots i ≡ Some old → part new ≡ option_map f (part old)
    → entries_from part k (set slots i new) ≡ changed_at id f (entries_from part k slots)
changed_from {X = X} part f k i id old new [] is at change = cc
changed_from {X = X} part f k zero id old new (x ∷ slots) is at change =
    let same : x ≡ old = (let some : Some x ≡ Some old = at in cc) in
    first (part x) (part new) (change ∙ ap (λ (s : Slot). option_map f (part s)) (sym same))
  where
    first : (o p : Option X) → p ≡ option_map f o → entry k p ++ entries_from part (suc k) slots ≡ changed_at id f (entry k o ++ entries_from part (suc k) slots)
    first None p e = rw e (sym (changed_at-later part f (suc k) id slots (omega arith)))
    first (Some y) p e = rw (e, is, here k) refl
changed_from {X = X} part f k (suc i) id old new (x ∷ slots) is at change =
    ap (λ rest. entry k (part x) ++ rest) (changed_from part f (suc k) i id old new slots (omega arith) at change) ∙ sym (changed_at-entry k id f (part x) (entries_from part (suc k) slots) (below k id (omega arith)))

same_from : {X : Type 0} (part : Slot → Option X) (k i : ℕ) (old new : Slot) (slots : List Slot) → slice_get slots i ≡ Some old → part new ≡ part old → entries_from part k (set slots i new) ≡ entries_from part k slots
same_from {X = X} part k i old new [] at same = refl
same_from {X = X} part k zero old new (x ∷ slots) at same =
    let is : x ≡ old = (let some : Some x ≡ Some old = at in cc) in
    ap (λ (o : Option X). entry k o ++ entries_from part (suc k) slots) (same ∙ ap part (sym is))
same_from {X = X} part k (suc i) old new (x ∷ slots) at same = ap (λ rest. entry k (part x) ++ rest) (same_from part (suc k) i old new slots at same)

more_from : {X : Type 0} (part : Slot → Option X) (k id : ℕ) (slot : Slot) (slots : List Slot) → id ≡ k + length slots → entries_from part k (slots ++ slot ∷ []) ≡ entries_from part k slots ++ entry id (part slot)
more_from part k id slot [] is = append-nil (entry k (part slot)) ∙ ap (λ (n : ℕ). entry n (part slot)) (omega arith)
more_from part k id slot (x ∷ slots) is =
    ap (λ rest. entry k (part x) ++ rest) (more_from part (suc k) id slot slots (omega arith)) ∙ sym (append_assoc (entry k (part x)) (entries_from part (suc k) slots) (entry id (part slot)))

-- an id that has no slot
pub found_at-missing : {X : Type 0} (part : Slot → Option X) (slots : List Slot) (id : ℕ) → length slots ≤ id → found_at id (entries part slots) ≡ None
found_at-missing part slots id le = found_at-past part 0 id slots (omega arith)

-- what the slot of an id has
pub found_at-slot : {X : Type 0} (part : Slot → Option X) (slots : List Slot) (i : ℕ) (slot : Slot) → i < length slots → slot ≡ get_or slots i slot → found_at i (entries part slots) ≡ part slot
found_at-slot part slots i slot lt is = found_from part 0 i i slot slots (omega arith) (slot_at slots i slot lt is)

-- a change of it
pub entries-changed : {X : Type 0} (part : Slot → Option X) (f : X → X) (slots : List Slot) (i : ℕ) (old new : Slot) → i < length slots → old ≡ get_or slots i old → part new ≡ option_map f (part old)
    → entries part (set slots i new) ≡ changed_at i f (entries part slots)
entries-changed part f slots i old new lt is change = changed_from part f 0 i i old new slots (omega arith) (slot_at slots i old lt is) change

-- a change of something else
pub entries-same : {X : Type 0} (part : Slot → Option X) (slots : List Slot) (i : ℕ) (old new : Slot) → i < length slots → old ≡ get_or slots i old → part new ≡ part old → entries part (set slots i new) ≡ entries part slots
entries-same part slots i old new lt is same = same_from part 0 i old new slots (slot_at slots i old lt is) same

-- a shelf with a slot more
pub more-slot : (files : List NamedFile) (slots : List Slot) (said : List ℕ) (id : ℕ) (slot : Slot) → id ≡ length slots
    → shelf_of files (slots ++ slot ∷ []) said ≡ with_slot id slot (shelf_of files slots said)
more-slot files slots said id slot is =
    let from : id ≡ 0 + length slots = omega arith in
    rw (more_from reader_in 0 id slot slots from, more_from writer_in 0 id slot slots from, more_from direction_in 0 id slot slots from) refl

pub fresh-slot : (files : List NamedFile) (slots : List Slot) (said : List ℕ) (id : ℕ) → id ≡ length slots
    → IsFresh id (entries direction_in slots) (Some record { files = files; readers = entries reader_in slots; writers = entries writer_in slots; said = said })
fresh-slot files slots said id is = record {
  given = found_at-past direction_in 0 id slots (omega arith);
  reader = found_at-past reader_in 0 id slots (omega arith);
  writer = found_at-past writer_in 0 id slots (omega arith);
}

-- nothing was read
pub moved-nothing : (id : ℕ) (s : Shelf) → s ≡ moved id 0 s
moved-nothing id s =
    let read : List (ℕ × List ℕ) → Shelf = λ readers. record s { world = record s.world { readers = readers } } in
    ap read (sym (changed_at-same id (drop 0) s.world.readers (λ left. refl)))

-- nothing was written
pub wrote-nothing : (id : ℕ) (s : Shelf) → s ≡ wrote id [] s
wrote-nothing id s =
    let write : List (ℕ × NamedFile) → Shelf = λ writers. record s { world = record s.world { writers = writers } } in
    ap write (sym (changed_at-same id (extended []) s.world.writers (λ file. ap (λ (o : List ℕ). record file { octets = o }) (append-nil file.octets))))

-- nothing is written where the id isn't one to write
pub wrote-missing : (id : ℕ) (piece other : List ℕ) (s : Shelf) → false ≡ is_some (found_at id s.world.writers) → wrote id piece s ≡ wrote id other s
wrote-missing id piece other s none =
    let write : List (ℕ × NamedFile) → Shelf = λ writers. record s { world = record s.world { writers = writers } } in
    ap write (changed_at-missing id (extended piece) s.world.writers (sym none) ∙ sym (changed_at-missing id (extended other) s.world.writers (sym none)))

undirected : (slot : Slot) → direction_in slot ≡ None → ⊥
undirected (Reading source) is = cc
undirected (Writing file) is = cc

-- the direction of the slot under its own id
same-direction : (id : ℕ) (o : Option Direction) (direction : Direction) (rest : List (ℕ × Direction)) → (o ≡ None → ⊥) → found_at id (entry id o ++ rest) ≡ Some direction → o ≡ Some direction
same-direction id None direction rest some given = absurd (some refl)
same-direction id (Some d) direction rest some given = rw (same_id id) at given

here-found : {X : Type 0} (id : ℕ) (o : Option X) (rest : List (ℕ × X)) → true ≡ is_some o → true ≡ is_some (found_at id (entry id o ++ rest))
here-found id None rest some = cc
here-found id (Some x) rest some = rw (same_id id) refl

found-first : {X : Type 0} (part : Slot → Option X) (direction : Direction) → ((slot : Slot) → direction_in slot ≡ Some direction → true ≡ is_some (part slot))
    → (k id : ℕ) (slot : Slot) (slots : List Slot) → k ≡ id → found_at id (entries_from direction_in k (slot ∷ slots)) ≡ Some direction → true ≡ is_some (found_at id (entries_from part k (slot ∷ slots)))
found-first part direction has k id slot slots is given =
    let at = rw is at given in
    rw is (here-found id (part slot) (entries_from part (suc id) slots) (has slot (same-direction id (direction_in slot) direction (entries_from direction_in (suc id) slots) (undirected slot) at)))

-- an id that was given in a direction has what its direction has
found-entry : {X : Type 0} (part : Slot → Option X) (direction : Direction) → ((slot : Slot) → direction_in slot ≡ Some direction → true ≡ is_some (part slot))
    → (k id : ℕ) (slots : List Slot) → found_at id (entries_from direction_in k slots) ≡ Some direction → true ≡ is_some (found_at id (entries_from part k slots))
found-entry part direction has k id [] given = cc
found-entry part direction has k id (slot ∷ slots) given =
    elim (cases_Bool (eqb k id)) [
      | inl same ↦ found-first part direction has k id slot slots (eqb-true k id same) given
      | inr other ↦
          found-entry part direction has (suc k) id slots (rw (found_at-entry k id (direction_in slot) (entries_from direction_in (suc k) slots) other) at given)
          ∙ ap is_some (sym (found_at-entry k id (part slot) (entries_from part (suc k) slots) other))
    ]

reads : (slot : Slot) → direction_in slot ≡ Some to_read → true ≡ is_some (reader_in slot)
reads (Reading source) is = refl
reads (Writing file) is = cc

writes : (slot : Slot) → direction_in slot ≡ Some to_write → true ≡ is_some (writer_in slot)
writes (Reading source) is = cc
writes (Writing file) is = refl

pub given-reads : (slots : List Slot) (id : ℕ) → IsGiven id to_read (entries direction_in slots) → true ≡ is_some (found_at id (entries reader_in slots))
given-reads slots id given = found-entry reader_in to_read reads 0 id slots given

pub given-writes : (slots : List Slot) (id : ℕ) → IsGiven id to_write (entries direction_in slots) → true ≡ is_some (found_at id (entries writer_in slots))
given-writes slots id given = found-entry writer_in to_write writes 0 id slots given
