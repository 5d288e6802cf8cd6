-- The end of a play of a capture in rounds.
use Rattle.std.specs.Prelude.{◌≡◌, ℕ, List, length, take, Option, None, Some}
use Rattle.desk.specs.World.{World, Shown, shown}
use Rattle.capture_io.specs.Frame.{Frame}
use Rattle.lisp_settings.specs.declared.settings.Settings.{Settings}
use Rattle.capture_events.specs.Events.{Outcome, records_of}
use Rattle.playback.specs.Front.{IsFront}
use Rattle.playback.specs.Input.{InputRun}
use Rattle.playback.specs.Playing.{Ends, with_outcome, with_output}
use Rattle.router_model.specs.Cut.{cut}
use Rattle.router_model.specs.Journal.{Journal}
use Rattle.router_model.specs.Plain.{Router, started}
use Rattle.router_model.specs.Rounds.{Lawful, rounds, rounds_from}
use Rattle.sharing.specs.declared.playing.RoundsEnding.{RoundsEnding}

-- a run of frames was played in rounds of that size: for some numbers that the data packets may have, all lines of the
-- rounds were reported, and all their packets written into the file
pub record HasShared (size : ℕ) (settings : Settings) (file : Option ℕ) (old : Shown) (run : InputRun) (ended : RoundsEnding) (now : Option World) : Type 0 where
  pub ns : List (List ℕ)
  pub lawful : Lawful settings run.frames size ns
  pub ends : Ends (rounds settings run.frames size ns) run ended.ending
  pub entries : ended.entries ≡ length (rounds settings run.frames size ns).after.memory
  pub shown : shown now ≡ Some (with_outcome file (rounds settings run.frames size ns) old)

-- the outcome of so many first rounds of a capture
abbrev pub first_rounds : Settings → List Frame → ℕ → List (List ℕ) → ℕ → Outcome (Router Journal)
first_rounds settings frames size ns count = rounds_from (started settings) None (take count (cut size frames)) ns

-- a play in rounds that was cut short: for some numbers that the data packets may have, a beginning of the rounds'
-- lines was reported and one of their packets written. For some count, all lines of so many first rounds were reported,
-- and no packet but theirs was written
pub record HasSharedPart (size : ℕ) (settings : Settings) (file : Option ℕ) (old : Shown) (run : InputRun) (now : Option World) : Type 0 where
  pub ns : List (List ℕ)
  pub lawful : Lawful settings run.frames size ns
  pub lines : List ℕ
  pub octets : List ℕ
  pub count : ℕ
  pub shown : shown now ≡ Some (with_output file lines octets old)
  pub said : IsFront lines (rounds settings run.frames size ns).lines
  pub sent : IsFront octets (records_of (rounds settings run.frames size ns).packets)
  pub reported : IsFront (first_rounds settings run.frames size ns count).lines lines
  pub written : IsFront octets (records_of (first_rounds settings run.frames size ns count).packets)
