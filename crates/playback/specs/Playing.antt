-- What a play of a capture leaves at its desk.
use Rattle.std.specs.Prelude.{◌≡◌, ℕ, ◌+◌, ◌||◌, nat_le, Bool, List, [], ◌∷◌, ◌++◌, length, Option, Some, None, option_map}
use Rattle.desk.specs.declared.file.NamedFile.{NamedFile}
use Rattle.desk.specs.World.{World, Direction, Shown, changed_at, extended, shown, to_write, IsGiven}
use Rattle.playback.specs.Arrivals.{Arrived}
use Rattle.capture_events.specs.Events.{AreStepsOf, End, Event, Outcome, Played, Step, events, played, records_of}
use Rattle.playback.specs.Input.{InputRun}
use Rattle.playback.specs.Limits.{piece_octets}
use Rattle.playback.specs.declared.output.Output.{Output}
use Rattle.playback.specs.declared.plays.Ending.{Ending}

-- the files that are written, with octets appended to the one of an id; unchanged without an id
abbrev pub written : Option ℕ → List ℕ → List (ℕ × NamedFile) → List (ℕ × NamedFile)
written None octets writers = writers
written (Some id) octets writers = changed_at id (extended octets) writers

-- whether the id of a play's file, if there is one, was given to write
abbrev pub MayWrite : Option ℕ → List (ℕ × Direction) → Type 0
MayWrite None given = Unit {0}
MayWrite (Some id) given = IsGiven id to_write given

-- a desk's world after lines were appended to the report and octets to a file
abbrev pub after_output : Option ℕ → List ℕ → List ℕ → World → World
after_output file lines octets w =
    record w { said = w.said ++ lines; writers = written file octets w.writers }

-- the visible part of a desk's world after lines were appended to the report and octets to a file
abbrev pub with_output : Option ℕ → List ℕ → List ℕ → Shown → Shown
with_output file lines octets s =
    record s { said = s.said ++ lines; writers = written file octets s.writers }

-- whether lines or records are enough for a piece
abbrev pub is_full : Output → Bool
is_full output =
    nat_le piece_octets (length output.lines) || nat_le piece_octets (length output.records)

-- the world once all gathered output is handed on
abbrev pub handed_on : Option ℕ → Output → Option World → Option World
handed_on file output told = option_map (after_output file output.lines output.records) told

-- the octets left to read of each id stay as they are
abbrev pub KeepsReaders : Option World → Option World → Type 0
KeepsReaders told now = option_map (λ w. w.readers) now ≡ option_map (λ w. w.readers) told

-- the visible part of a desk's world after all of an outcome was appended to report and file
abbrev pub with_outcome : {S : Type 0} → Option ℕ → Outcome S → Shown → Shown
with_outcome file outcome s = with_output file outcome.lines (records_of outcome.packets) s

-- the lines and packets of an outcome are added to the gathered output
pub record Gathers {S : Type 0} (outcome : Outcome S) (old new : Output) : Type 0 where
  pub lines : new.lines ≡ old.lines ++ outcome.lines
  pub records : new.records ≡ old.records ++ records_of outcome.packets
  pub written : new.written ≡ old.written + length outcome.packets

-- the lines and packets of one of the possible outcomes are added to the gathered output, and the state is the one
-- after it
pub record GathersOne {S : Type 0} (may : Outcome S → Type 0) (old new : Output) (after : S) : Type 0 where
  pub outcome : Outcome S
  pub is : may outcome
  pub gathers : Gathers outcome old new
  pub left : after ≡ outcome.after

-- the outcome of the frames of a capture and the seconds between them
abbrev pub outcome_of : {S : Type 0} → (S → Event → Outcome S) → S → InputRun → Outcome S
outcome_of step state run = played step state (events run.frames)

-- how a play ends: with the capture's fault, if it has one, its number of frames, and the number of packets of the
-- outcome
pub record Ends {S : Type 0} (outcome : Outcome S) (run : InputRun) (ending : Ending) : Type 0 where
  pub fault : ending.fault ≡ run.fault
  pub frames : ending.frames ≡ length run.frames
  pub written : ending.written ≡ length outcome.packets

-- a capture was played to its end from `start`: report and file have all of an outcome that is possible for its events,
-- with pauses among them, and its end, and the state is the one after it
pub record HasPlayed {S : Type 0} (does : S → Step → Outcome S → Type 0) (start : S) (file : Option ℕ) (old : Shown)
    (run : InputRun) (ending : Ending) (after : S) (now : Option World) : Type 0 where
  pub steps : List Step
  pub steps_are : AreStepsOf run.frames steps
  pub outcome : Outcome S
  pub played : Played does start (steps ++ End ∷ []) outcome
  pub came : Arrived run.frames
  pub ends : Ends outcome run ending
  pub shown : shown now ≡ Some (with_outcome file outcome old)
  pub left : after ≡ outcome.after
