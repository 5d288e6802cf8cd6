-- Files in memory and the ids that were given for them: a shelf, and the shelf after each call.
use Rattle.std.specs.Prelude.{ℕ, List, [], ◌∷◌, ◌++◌, Option, Some, None, is_some, Result, Ok, Err, if◌then◌else◌}
use Rattle.std.specs.Str.{bytes_eq}
use Rattle.desk.specs.declared.desk.FileId.{FileId}
use Rattle.desk.specs.declared.file.NamedFile.{NamedFile}
use Rattle.desk.specs.World.{World, Direction, to_read, to_write, there, after_open, after_make, after_read, after_write, after_say}

-- a shelf: the world of its desk, and the ids that were given
pub record Shelf : Type 0 where
  pub world : World
  pub given : List (ℕ × Direction)

-- a shelf of these files, before any id was given
abbrev pub untouched : List NamedFile → Shelf
untouched files = record {
  world = record { files = files; readers = []; writers = []; said = [] };
  given = [];
}

-- a shelf after opening a file: with one id to read more, if the call succeeded
abbrev pub opened : {E : Type 0} → List ℕ → Result FileId E → Shelf → Shelf
opened name (Ok id) s =
    record { world = after_open id.number name s.world; given = s.given ++ (id.number, to_read) ∷ [] }
opened name (Err _) s = s

-- a shelf after making a file: with one id to write more, if the call succeeded
abbrev pub made : {E : Type 0} → List ℕ → Result FileId E → Shelf → Shelf
made name (Ok id) s =
    record { world = after_make id.number name s.world; given = s.given ++ (id.number, to_write) ∷ [] }
made name (Err _) s = s

-- a shelf with n octets less to read of an id
abbrev pub moved : ℕ → ℕ → Shelf → Shelf
moved id n s = record s { world = after_read id n s.world }

-- the part of a piece that a call with that result appends: all, or no octet
abbrev pub written : {E : Type 0} → Result Unit E → List ℕ → List ℕ
written (Ok _) piece = piece
written (Err _) piece = []

-- a shelf with a piece appended to the file of an id
abbrev pub wrote : ℕ → List ℕ → Shelf → Shelf
wrote id piece s = record s { world = after_write id piece s.world }

-- a shelf with a piece appended to the report
abbrev pub spoke : List ℕ → Shelf → Shelf
spoke piece s = record s { world = after_say piece s.world }

-- the content of the last made file of that name, if there is one
abbrev pub made_last : List ℕ → List (ℕ × NamedFile) → Option (List ℕ)
made_last name [] = None
made_last name (writer ∷ writers) =
    if is_some (made_last name writers) then made_last name writers
    else if bytes_eq writer.1.name name then Some writer.1.octets else None

-- the content of the file of that name: the last one made, or else the one that was there
abbrev pub file_of : List ℕ → World → Option (List ℕ)
file_of name w =
    if is_some (made_last name w.writers) then made_last name w.writers else there name w.files
