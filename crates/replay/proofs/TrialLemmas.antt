-- The output of a trial, and its line.
use Rattle.std.proofs.Common.{◌≡◌, ℕ, List, [], ◌∷◌, ◌++◌, true, bytes_eq, Option, Some, None, Ok, refl, ap, get_or, ◌∙◌}
use Rattle.octets.specs.Rules.{first_failing}
use Rattle.capture_io.specs.Capture.{header_rules}
use Rattle.capture_io.specs.Frames.{capture}
use Rattle.command_words.specs.declared.intake.InputFormat.TheVariants as format
use Rattle.capture_io.specs.Output.{out_header}
use Rattle.capture_io.specs.declared.fault.CaptureFault.{CaptureFault}
use Rattle.desk.specs.Shelf.{file_of, made_last}
use Rattle.desk.specs.World.{World, Shown, shown_of}
use Rattle.desk.specs.declared.file.NamedFile.{NamedFile}
use Rattle.lisp_settings.specs.declared.settings.Settings.{Settings}
use Rattle.capture_events.specs.Events.{records_of}
use Rattle.playback.specs.Input.{InputRun, input_run}
use Rattle.playback.specs.Written.{frames_of}
use Rattle.playback.specs.declared.fault.InputFault.TheVariants as of
use Rattle.trial_input.specs.Trial.{trial_packets, trial_settings}
use Rattle.replay.specs.Answer.{made_files}
use Rattle.replay.specs.Opening.{behind_header, opened}
use Rattle.replay.specs.Readings.{replay_of, HasReplayed}
use Rattle.replay.specs.Trial.{trial_line, trial_text}
use Rattle.replay.specs.declared.counts.Counts.{Counts}

made_last-one : (name octets : List ℕ) (writers : List (ℕ × NamedFile)) → bytes_eq name name ≡ true → made_files writers ≡ record { name = name; octets = octets } ∷ [] → made_last name writers ≡ Some octets
made_last-one name octets [] same is = cc
made_last-one name octets (writer ∷ []) same is =
    let file : writer.1 ≡ record { name = name; octets = octets } = ap (λ (files : List NamedFile). get_or files 0 writer.1) is in
    rw (file, same) refl
made_last-one name octets (writer ∷ (other ∷ more)) same is = cc

-- the one file that was made
pub file_of-made : (name octets : List ℕ) (w : World) → bytes_eq name name ≡ true → made_files w.writers ≡ record { name = name; octets = octets } ∷ [] → file_of name w ≡ Some octets
file_of-made name octets w same is = rw (made_last-one name octets w.writers same is) refl

-- what is read of a file whose header obeys its rules
pub opened-trial : (file : List ℕ) → first_failing (header_rules file) ≡ None → opened format.Classic file ≡ Ok (input_run of.Classic (capture file))
opened-trial file none = ap (λ (o : Option CaptureFault). behind_header o (input_run of.Classic (capture file))) none

-- what the desk then has under the output's name
pub output_of : (settings : Settings) (output : List ℕ) (run : InputRun) (counts : Counts) (old : Shown) (w : World) → bytes_eq output output ≡ true → made_files old.writers ≡ [] → HasReplayed settings output run counts old (Some (shown_of w))
    → file_of output w ≡ Some (out_header ++ records_of (replay_of settings run).packets)
output_of settings output run counts old w same none has =
    file_of-made output (out_header ++ records_of (replay_of settings run).packets) w same (has.left.made ∙ ap (λ (files : List NamedFile). files ++ record { name = output; octets = out_header ++ records_of (replay_of settings run).packets } ∷ []) none)

-- its counts make the line of the trial
pub trial_line-replayed : (n : ℕ) (output file octets : List ℕ) (counts : Counts) (old : Shown) (new : Option Shown) → capture file ≡ record { frames = frames_of (trial_packets n); fault = None }
    → HasReplayed (trial_settings n) output (input_run of.Classic (capture file)) counts old new → octets ≡ out_header ++ records_of (replay_of (trial_settings n) (input_run of.Classic (capture file))).packets
    → trial_line n counts.frames counts.written counts.entries octets ≡ trial_text n
unfolding trial_text
trial_line-replayed n output file octets counts old new run has is = rw (is, has.frames, has.written, has.entries, run) refl
