-- The reading of a settings file, and a replay but for its last line: for contracts inside the crate, no clause of
-- `run` needs these.
use Rattle.std.specs.Prelude.{◌≡◌, ◌<◌, ◌⊎◌, ◌++◌, ◌∷◌, [], ℕ, zero, suc, List, length, Option, Some, Result, Ok, Err, IsSomeAnd}
use Rattle.desk.specs.World.{Shown}
use Rattle.capture_io.specs.Output.{out_header}
use Rattle.lisp_settings.specs.Limits.{most_text_octets}
use Rattle.lisp_settings.specs.declared.settings.Settings.{Settings}
use Rattle.capture_events.specs.Events.{Outcome, records_of}
use Rattle.playback.specs.Input.{InputRun}
use Rattle.playback.specs.Playing.{outcome_of}
use Rattle.playback.specs.declared.fault.InputFault.{InputFault}
use Rattle.router_model.specs.Journal.{Journal}
use Rattle.router_model.specs.Plain.{Router, plain, started}
use Rattle.router_model.specs.Rounds.{Lawful, rounds}
use Rattle.replay.specs.Answer.{Answer, Leaves, status_of}
use Rattle.replay.specs.Opening.{Opened}
use Rattle.replay.specs.Shared.{AreChosenOf}
use Rattle.replay.specs.declared.counts.Counts.{Counts}

-- the octets read of a settings file: its text, or else both are longer than settings may be
abbrev pub ReadsAs : List ℕ → List ℕ → Type 0
ReadsAs octets text = (octets ≡ text) ⊎ ((most_text_octets < length octets) × (most_text_octets < length text))

-- the outcome of a replay of a run of frames by the plain router
abbrev pub replay_of : Settings → InputRun → Outcome (Router Journal)
replay_of settings run = outcome_of plain (started settings) run

-- the answer to a replay of a run of frames into the file `output`, but for its last line
abbrev pub unclosed : Outcome (Router Journal) → List ℕ → InputRun → Answer
unclosed outcome output run = record {
  status = status_of run.fault;
  said = outcome.lines;
  made = record { name = output; octets = out_header ++ records_of outcome.packets } ∷ [];
}

-- a run of frames was replayed into the file `output` with that outcome, but for the last line, whose counts are these
pub record HasReplayedBy (outcome : Outcome (Router Journal)) (output : List ℕ) (run : InputRun) (counts : Counts)
    (old : Shown) (new : Option Shown) : Type 0 where
  pub fault : counts.fault ≡ run.fault
  pub frames : counts.frames ≡ length run.frames
  pub written : counts.written ≡ length outcome.packets
  pub entries : counts.entries ≡ length outcome.after.memory
  pub left : IsSomeAnd new (Leaves (unclosed outcome output run) old)

-- a run of frames was replayed by the plain router into the file `output`, but for the last line
abbrev pub HasReplayed : Settings → List ℕ → InputRun → Counts → Shown → Option Shown → Type 0
HasReplayed settings output run counts old new = HasReplayedBy (replay_of settings run) output run counts old new

-- a run of frames was replayed in rounds of that size, with some numbers that its data packets may have, but for the
-- last line
pub record HasReplayedInRounds (size : ℕ) (settings : Settings) (output : List ℕ) (run : InputRun) (counts : Counts)
    (old : Shown) (new : Option Shown) : Type 0 where
  pub ns : List (List ℕ)
  pub lawful : Lawful settings run.frames size ns
  pub replayed : HasReplayedBy (rounds settings run.frames size ns) output run counts old new

-- the outcome of a replay with so many forwarders: without any that of the plain router, else that of rounds with these
-- numbers
abbrev pub outcome_for : ℕ → ℕ → List (List ℕ) → Settings → InputRun → Outcome (Router Journal)
outcome_for zero size ns settings run = replay_of settings run
outcome_for (suc workers) size ns settings run = rounds settings run.frames size ns

-- a run of frames was replayed with so many forwarders, and some numbers that its data packets may have, but for the
-- last line
pub record HasReplayedFor (workers size : ℕ) (settings : Settings) (output : List ℕ) (run : InputRun) (counts : Counts)
    (old : Shown) (new : Option Shown) : Type 0 where
  pub ns : List (List ℕ)
  pub lawful : AreChosenOf workers size ns settings (Ok run)
  pub replayed : HasReplayedBy (outcome_for workers size ns settings run) output run counts old new

-- a capture was replayed with so many forwarders, but for the last line; or its header has that fault, and report and
-- files are as before
abbrev pub HasReplayedFile : ℕ → ℕ → Settings → List ℕ → Opened → Result Counts InputFault → Shown → Option Shown → Type 0
HasReplayedFile workers size settings output (Ok run) (Ok counts) old new =
    HasReplayedFor workers size settings output run counts old new
HasReplayedFile workers size settings output (Err fault) (Err other) old new = (other ≡ fault) × (new ≡ Some old)
HasReplayedFile workers size settings output (Ok run) (Err other) old new = ⊥
HasReplayedFile workers size settings output (Err fault) (Ok counts) old new = ⊥
