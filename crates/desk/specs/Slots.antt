-- The slots of a shelf by their ids: open files to read, and made files to write.
use Rattle.std.specs.Prelude.{ℕ, suc, List, [], ◌∷◌, ◌++◌, drop, Option, Some, None}
use Rattle.desk.specs.declared.file.NamedFile.{NamedFile}
use Rattle.desk.specs.declared.slots.Slot.{Slot}
use Rattle.desk.specs.declared.slots.Slot.TheVariants.{Reading, Writing}
use Rattle.desk.specs.Shelf.{Shelf}
use Rattle.desk.specs.World.{Direction, to_read, to_write}

-- the octets that a slot to read has left of its file
abbrev pub reader_in : Slot → Option (List ℕ)
reader_in (Reading source) = Some (drop source.place source.file)
reader_in (Writing file) = None

-- the made file of a slot to write
abbrev pub writer_in : Slot → Option NamedFile
writer_in (Reading source) = None
writer_in (Writing file) = Some file

-- whether a slot reads or writes
abbrev pub direction_in : Slot → Option Direction
direction_in (Reading source) = Some to_read
direction_in (Writing file) = Some to_write

-- an id paired with a value, as a list; empty without a value
abbrev pub entry : {X : Type 0} → ℕ → Option X → List (ℕ × X)
entry id None = []
entry id (Some x) = (id, x) ∷ []

-- the part that each slot may have, by the slots' ids, which count from k
abbrev pub entries_from : {X : Type 0} → (Slot → Option X) → ℕ → List Slot → List (ℕ × X)
entries_from part k [] = []
entries_from part k (slot ∷ slots) = entry k (part slot) ++ entries_from part (suc k) slots

-- the part that each slot may have, by the slots' ids, which count from 0
abbrev pub entries : {X : Type 0} → (Slot → Option X) → List Slot → List (ℕ × X)
entries part slots = entries_from part 0 slots

-- a shelf of these files, slots and report
abbrev pub shelf_of : List NamedFile → List Slot → List ℕ → Shelf
shelf_of files slots said = record {
  world = record {
    files = files;
    readers = entries reader_in slots;
    writers = entries writer_in slots;
    said = said;
  };
  given = entries direction_in slots;
}

-- a shelf with one slot more
abbrev pub with_slot : ℕ → Slot → Shelf → Shelf
with_slot id slot s = record {
  world = record s.world {
    readers = s.world.readers ++ entry id (reader_in slot);
    writers = s.world.writers ++ entry id (writer_in slot);
  };
  given = s.given ++ entry id (direction_in slot);
}
