-- The answer of a run, by its words and the files at the desk.
use Rattle.std.specs.Prelude.{◌≡◌, ℕ, Bool, true, false, List, [], ◌∷◌, ◌++◌, codes, length, map, Option, Some, None, Result, Ok, Err, IsSomeAnd}
use Rattle.command_words.specs.Words.{words_of}
use Rattle.command_words.specs.declared.words.Words.{Words}
use Rattle.command_words.specs.declared.words.Words.TheVariants.{Replay, Show, Trial, Audit}
use Rattle.desk.specs.declared.file.NamedFile.{NamedFile}
use Rattle.desk.specs.World.{Shown, content}
use Rattle.capture_io.specs.Output.{out_header}
use Rattle.lisp_settings.specs.Settings.{settings_of}
use Rattle.lisp_settings.specs.declared.fault.SettingsFault.{SettingsFault}
use Rattle.lisp_settings.specs.declared.settings.Settings.{Settings}
use Rattle.capture_events.specs.Events.{Outcome, events, played, records_of}
use Rattle.command_words.specs.declared.intake.InputFormat.TheVariants.{Classic}
use Rattle.playback.specs.Input.{InputRun}
use Rattle.playback.specs.declared.fault.InputFault.{InputFault}
use Rattle.router_model.specs.Journal.{Journal}
use Rattle.router_model.specs.Plain.{Router, plain, started}
use Rattle.replay.specs.Audit.{finding_line, finding_status, found_by}
use Rattle.replay.specs.Lines.{count_line, end_line, fault_line, settings_line}
use Rattle.replay.specs.Opening.{Arriving, Opened, arriving, opened}
use Rattle.replay.specs.Show.{showing}
use Rattle.replay.specs.Trial.{trial_text}
use Rattle.replay.specs.declared.finding.Finding.{Finding}
use Rattle.replay.specs.declared.status.Status.{Status}
use Rattle.replay.specs.declared.status.Status.TheVariants.{Done, Usage, Settings as BadSettings, Capture, Host, Memory, Differs}

-- the answer of a run: a status, a report, and the file that was made, if one was
pub record Answer : Type 0 where
  pub status : Status
  pub said : List ℕ
  pub made : List NamedFile

-- the status of a replay or a show, by the fault of its capture
abbrev pub status_of : Option InputFault → Status
status_of None = Done
status_of (Some fault) = Capture

-- the last line of a replay or a show: the line of the capture's fault, or else this line
abbrev pub closing : Option InputFault → List ℕ → List ℕ
closing None line = line
closing (Some fault) line = fault_line fault

-- an answer of a status and one line, without a file
abbrev pub told_off : Status → List ℕ → Answer
told_off status line = record { status = status; said = line; made = [] }

-- the answer to a replay of a run of frames into the file `output`, by the outcome of the router: lines, packets and
-- journal
abbrev pub answer_by : Outcome (Router Journal) → List ℕ → InputRun → Answer
answer_by outcome output run = record {
  status = status_of run.fault;
  said =
      outcome.lines
      ++ closing run.fault (end_line (length run.frames) (length outcome.packets) (length outcome.after.memory));
  made = record { name = output; octets = out_header ++ records_of outcome.packets } ∷ [];
}

-- the answer to a replay of a run of frames into the file `output` by the plain router
unfoldable pub replayed : Settings → List ℕ → InputRun → Answer
replayed settings output run = answer_by (played plain (started settings) (events run.frames)) output run

-- the answer to a show of a run of frames: the lines of each frame
unfoldable pub messages_shown : InputRun → Answer
messages_shown run =
    let outcome = played showing tt (events run.frames) in
    record {
      status = status_of run.fault;
      said = outcome.lines ++ closing run.fault (count_line (length run.frames));
      made = [];
    }

-- the answer to a capture: that of its frames, or the line of the fault in its header
abbrev pub after_opening : (InputRun → Answer) → Opened → Answer
after_opening frames (Err fault) = told_off Capture (fault_line fault)
after_opening frames (Ok run) = frames run

-- the answer to a replay of a capture into the file `output`, by its settings or their fault
abbrev pub after_settings : List ℕ → Arriving → Result Settings SettingsFault → Answer
after_settings output input (Err fault) = told_off BadSettings (settings_line fault)
after_settings output input (Ok settings) = after_opening (replayed settings output) (input settings)

-- the answer to an audit, by its finding
abbrev pub after_finding : Finding → Answer
after_finding finding = told_off (finding_status finding) (finding_line finding)

-- the answer to a command, at a desk with these files; None stands for words of no form
abbrev pub after_words : List NamedFile → Option Words → Answer
after_words files None = told_off Usage (codes "usage\n")
after_words files (Some (Replay settings input output intake workers round)) =
    after_settings output (arriving intake (content input files)) (settings_of (content settings files))
after_words files (Some (Show input)) = after_opening messages_shown (opened Classic (content input files))
after_words files (Some (Trial n)) = told_off Done (trial_text n)
after_words files (Some (Audit settings input sent nonces)) =
    after_finding (found_by nonces (settings_of (content settings files)) (opened Classic (content input files)) (opened Classic (content sent files)))

-- the answer to words, at a desk with these files
unfoldable pub answer : List (List ℕ) → List NamedFile → Answer
answer words files = after_words files (words_of words)

-- whether a status is that of a failed call or of refused memory, and not of words and files
abbrev pub is_outside : Status → Bool
is_outside Host = true
is_outside Memory = true
is_outside _ = false

-- the made files, without their ids
abbrev pub made_files : List (ℕ × NamedFile) → List NamedFile
made_files writers = map (λ writer. writer.1) writers

-- a run leaves its answer: the files that were there, and the answer's report and made file behind those of before
pub record Leaves (a : Answer) (old new : Shown) : Type 0 where
  pub files : new.files ≡ old.files
  pub said : new.said ≡ old.said ++ a.said
  pub made : made_files new.writers ≡ made_files old.writers ++ a.made

-- a run gives its answer: the status `s` is the answer's, and the answer's report and made file are left
pub record Gives (a : Answer) (s : Status) (old : Shown) (new : Option Shown) : Type 0 where
  pub status : s ≡ a.status
  pub left : IsSomeAnd new (Leaves a old)

-- whether a status is that of words of a form, with neither `Host` nor `Memory`
abbrev pub is_of_form : Status → Bool
is_of_form Done = true
is_of_form BadSettings = true
is_of_form Capture = true
is_of_form Differs = true
is_of_form _ = false

-- whether a status is that of lawful words, settings and captures
abbrev pub is_lawful_end : Status → Bool
is_lawful_end Done = true
is_lawful_end Differs = true
is_lawful_end _ = false

-- whether a status is that of a capture that was read to its end, or to its fault
abbrev pub is_end : Status → Bool
is_end Done = true
is_end Capture = true
is_end _ = false
