-- The world of a desk that isn't opaque: its files and its report, and each call's effect on them.
use Rattle.std.specs.Prelude.{◌≡◌, ◌≤◌, ◌<◌, ℕ, ◌==◌, if◌then◌else◌, List, [], ◌∷◌, ◌++◌, length, take, drop, min, Option, Some, None, IfSome, IsSomeAnd, IsTrue, is_some, option_map, unwrap_or}
use Rattle.std.specs.Str.{bytes_eq}
use Rattle.desk.specs.declared.file.NamedFile.{NamedFile}

-- the direction of an id: whether it reads or writes
pub data Direction : Type 0 where
  to_read : Direction
  to_write : Direction

-- a world: the files by name, the octets left of each id to read, the made file of each id to write, and the report
pub record World : Type 0 where
  pub files : List NamedFile
  pub readers : List (ℕ × List ℕ)
  pub writers : List (ℕ × NamedFile)
  pub said : List ℕ

-- the value paired with an id in a list, if there is one
abbrev pub found_at : {X : Type 0} → ℕ → List (ℕ × X) → Option X
found_at id [] = None
found_at id (entry ∷ entries) = if entry.0 == id then Some entry.1 else found_at id entries

-- a list of ids and values, with the value of one id changed
abbrev pub changed_at : {X : Type 0} → ℕ → (X → X) → List (ℕ × X) → List (ℕ × X)
changed_at id change [] = []
changed_at id change (entry ∷ entries) =
    if entry.0 == id then (entry.0, change entry.1) ∷ entries
    else entry ∷ changed_at id change entries

-- the content of the first file of that name, if there is one
abbrev pub there : List ℕ → List NamedFile → Option (List ℕ)
there name [] = None
there name (file ∷ files) = if bytes_eq file.name name then Some file.octets else there name files

-- the content of the first file of that name; empty without one
abbrev pub content : List ℕ → List NamedFile → List ℕ
content name files = unwrap_or (there name files) []

-- contracts see the desk's files, and one of them has that name
abbrev pub IsThere : List ℕ → Option World → Type 0
IsThere name told = IsSomeAnd told (λ w. IsTrue (is_some (there name w.files)))

-- an id was given in that direction
abbrev pub IsGiven : ℕ → Direction → List (ℕ × Direction) → Type 0
IsGiven id direction given = found_at id given ≡ Some direction

-- the octets left to read of an id; none for an id that doesn't read
abbrev pub left_of : ℕ → World → List ℕ
left_of id w = unwrap_or (found_at id w.readers) []

-- a file with octets appended
abbrev pub extended : List ℕ → NamedFile → NamedFile
extended piece file = record file { octets = file.octets ++ piece }

-- a world with one id to read more, of the file of that name
abbrev pub after_open : ℕ → List ℕ → World → World
after_open id name w = record w { readers = w.readers ++ (id, content name w.files) ∷ [] }

-- a world with one id to write more, of a new, empty file of that name
abbrev pub after_make : ℕ → List ℕ → World → World
after_make id name w =
    record w { writers = w.writers ++ (id, record { name = name; octets = [] }) ∷ [] }

-- a world with n octets less to read of an id
abbrev pub after_read : ℕ → ℕ → World → World
after_read id n w = record w { readers = changed_at id (drop n) w.readers }

-- a world with a piece appended to the file of an id
abbrev pub after_write : ℕ → List ℕ → World → World
after_write id piece w = record w { writers = changed_at id (extended piece) w.writers }

-- a world with a piece appended to the report
abbrev pub after_say : List ℕ → World → World
after_say piece w = record w { said = w.said ++ piece }

-- an id wasn't given before, in either direction
pub record IsFresh (id : ℕ) (ids : List (ℕ × Direction)) (world : Option World) : Type 0 where
  pub given : found_at id ids ≡ None
  pub reader : IfSome world (λ w. found_at id w.readers ≡ None)
  pub writer : IfSome world (λ w. found_at id w.writers ≡ None)

-- the first n octets of a buffer are the next ones of those left; n is 0 only where none are left
pub record Gives (left : List ℕ) (n : ℕ) (buf : List ℕ) : Type 0 where
  pub within : n ≤ length left
  pub octets : take n buf ≡ take n left
  pub some : 0 < length left → 0 < n

-- the first n octets of a buffer are the next ones of those left, as many as the buffer takes and the file has
pub record Fills (left : List ℕ) (n : ℕ) (buf : List ℕ) : Type 0 where
  pub count : n ≡ min (length buf) (length left)
  pub octets : take n buf ≡ take n left

-- the visible part of a desk's world: all but how far its files were read
pub record Shown : Type 0 where
  pub files : List NamedFile
  pub writers : List (ℕ × NamedFile)
  pub said : List ℕ

-- the visible part of a world
abbrev pub shown_of : World → Shown
shown_of w = record { files = w.files; writers = w.writers; said = w.said }

-- the visible part of a desk's world; None for an opaque desk
abbrev pub shown : Option World → Option Shown
shown told = option_map shown_of told
