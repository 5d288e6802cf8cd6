-- A run that is cut short, by a failed call of the desk or for want of memory, and the beginning of its answer that it
-- leaves.
use Rattle.std.specs.Prelude.{◌≡◌, ℕ, List, [], ◌∷◌, ◌++◌, take, Option, Some, None, Result, Ok, Err, IfSome, IsSomeAnd, option_map, ◌⊎◌}
use Rattle.command_words.specs.Words.{words_of}
use Rattle.command_words.specs.declared.words.Words.{Words}
use Rattle.command_words.specs.declared.words.Words.TheVariants.{Replay, Show}
use Rattle.desk.specs.declared.file.NamedFile.{NamedFile}
use Rattle.desk.specs.World.{World, Shown, after_make, after_say, after_write, content, found_at, shown}
use Rattle.capture_io.specs.Output.{out_header}
use Rattle.lisp_settings.specs.Settings.{settings_of}
use Rattle.lisp_settings.specs.declared.fault.SettingsFault.{SettingsFault}
use Rattle.lisp_settings.specs.declared.settings.Settings.{Settings}
use Rattle.capture_events.specs.Events.{Outcome, events, played, records_of}
use Rattle.command_words.specs.declared.intake.InputFormat.TheVariants.{Classic}
use Rattle.playback.specs.Front.{IsFront}
use Rattle.playback.specs.Input.{InputRun}
use Rattle.router_model.specs.Journal.{Journal}
use Rattle.router_model.specs.Plain.{Router, plain, started}
use Rattle.replay.specs.Answer.{Answer, made_files}
use Rattle.replay.specs.Opening.{Arriving, Opened, arriving, opened}
use Rattle.replay.specs.Show.{showing}

-- the part of a run that is done: the lines that were reported, and the file that was made, if one was
pub record Part : Type 0 where
  pub said : List ℕ
  pub made : List NamedFile

-- a part without a line and without a file, at any count of events
abbrev pub no_part : ℕ → Part
no_part count = record { said = []; made = [] }

-- the part of an outcome: its lines, and the file `output` with its packets
abbrev pub part_by : Outcome (Router Journal) → List ℕ → Part
part_by outcome output = record {
  said = outcome.lines;
  made = record { name = output; octets = out_header ++ records_of outcome.packets } ∷ [];
}

-- the part of a replay of a run of frames into the file `output` after so many events: their lines, and the file with
-- their packets
unfoldable pub replayed_part : Settings → List ℕ → InputRun → ℕ → Part
replayed_part settings output run count =
    part_by (played plain (started settings) (take count (events run.frames))) output

-- the part of a show of a run of frames after so many events: their lines, and no file
unfoldable pub shown_part : InputRun → ℕ → Part
shown_part run count =
    record { said = (played showing tt (take count (events run.frames))).lines; made = [] }

-- the part of a run on a capture: no line and no file where the capture's header has a fault
abbrev pub part_after_opening : (InputRun → ℕ → Part) → Opened → ℕ → Part
part_after_opening frames (Err fault) = no_part
part_after_opening frames (Ok run) = frames run

-- the part of a replay, by its settings: no line and no file where these have a fault
abbrev pub part_after_settings : List ℕ → Arriving → Result Settings SettingsFault → ℕ → Part
part_after_settings output input (Err fault) = no_part
part_after_settings output input (Ok settings) = part_after_opening (replayed_part settings output) (input settings)

-- the part of a command after so many events of its capture, at a desk with these files
abbrev pub part_after_words : List NamedFile → Option Words → ℕ → Part
part_after_words files (Some (Replay settings input output intake workers round)) =
    part_after_settings output (arriving intake (content input files)) (settings_of (content settings files))
part_after_words files (Some (Show input)) = part_after_opening shown_part (opened Classic (content input files))
part_after_words files _ = no_part

-- the part of a run of words after so many events of its capture, at a desk with these files
unfoldable pub part : List (List ℕ) → List NamedFile → ℕ → Part
part words files = part_after_words files (words_of words)

-- files with the names of the first of other files, in order, each with a beginning of that file's octets
abbrev pub AreFronts : List NamedFile → List NamedFile → Type 0
AreFronts [] whole = Unit {0}
AreFronts (file ∷ files) [] = ⊥
AreFronts (file ∷ files) (other ∷ others) =
    (file.name ≡ other.name) × (IsFront file.octets other.octets × AreFronts files others)

-- a run that was cut short leaves a beginning of its answer: the files that were there, a beginning of the answer's
-- report behind the report of before, and a beginning of its made file, or no file, behind those of before. There is a
-- count of events (or rounds) of which all lines were reported, with no packet written but theirs. No octet of the last
-- line was reported, or the made file is whole
pub record LeavesFront (a : Answer) (parts : ℕ → Part) (old new : Shown) : Type 0 where
  pub lines : List ℕ
  pub made : List NamedFile
  pub count : ℕ
  pub files : new.files ≡ old.files
  pub said : new.said ≡ old.said ++ lines
  pub wrote : made_files new.writers ≡ made_files old.writers ++ made
  pub report : IsFront lines a.said
  pub output : AreFronts made a.made
  pub reported : IsFront (parts count).said lines
  pub written : AreFronts made (parts count).made
  pub closed : ((n : ℕ) × IsFront lines (parts n).said) ⊎ (made ≡ a.made)

-- a run that was cut short leaves a beginning of its answer, and the desk shows its content
abbrev pub EndsFront : Answer → (ℕ → Part) → Shown → Option World → Type 0
EndsFront a parts old new = IsSomeAnd (shown new) (LeavesFront a parts old)

-- a beginning of a line was reported, and no other change was made
abbrev pub SaysPart : List ℕ → Option World → Option World → Type 0
SaysPart line old new = (k : ℕ) × (new ≡ option_map (after_say (take k line)) old)

-- either no change was made, or a file of that name was made, with a beginning of a capture's header
abbrev pub MakesPart : List ℕ → Option World → Option World → Type 0
MakesPart name old new =
    (new ≡ old)
    ⊎ ((id : ℕ) × (k : ℕ) × IfSome old (λ w. found_at id w.writers ≡ None)
    × (new ≡ option_map (λ w. after_write id (take k out_header) (after_make id name w)) old))
