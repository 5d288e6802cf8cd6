-- A run with forwarders that is cut short, and the beginning of its answer that it leaves, by numbers that its data
-- packets may have.
use Rattle.std.specs.Prelude.{ℕ, zero, suc, List, Option, Some, Result, Ok, Err}
use Rattle.command_words.specs.Words.{words_of}
use Rattle.command_words.specs.declared.words.Words.{Words}
use Rattle.command_words.specs.declared.words.Words.TheVariants.{Replay}
use Rattle.desk.specs.declared.file.NamedFile.{NamedFile}
use Rattle.desk.specs.World.{World, Shown, content}
use Rattle.lisp_settings.specs.Settings.{settings_of}
use Rattle.lisp_settings.specs.declared.fault.SettingsFault.{SettingsFault}
use Rattle.lisp_settings.specs.declared.settings.Settings.{Settings}
use Rattle.playback.specs.Input.{InputRun}
use Rattle.router_model.specs.Rounds.{Lawful}
use Rattle.sharing.specs.Sharing.{first_rounds}
use Rattle.replay.specs.Answer.{Answer, after_opening}
use Rattle.replay.specs.Front.{EndsFront, Part, no_part, part_after_opening, part_after_words, part_by, replayed_part}
use Rattle.replay.specs.Opening.{Arriving, Opened, arriving}
use Rattle.replay.specs.Shared.{AreChosen, AreChosenOf, MayHave, after_settings_by, after_words_by, answer_with, frames_by, shared}

-- the part of a replay of a run of frames into the file `output` after so many rounds with these numbers: their lines,
-- and the file with their packets
unfoldable pub shared_part : List ℕ → ℕ → List (List ℕ) → Settings → InputRun → ℕ → Part
shared_part output size ns settings run count = part_by (first_rounds settings run.frames size ns count) output

-- the part of a replay, by its settings and by the part of its frames: no line and no file where the settings have a
-- fault
abbrev pub part_after_settings_by : (Settings → InputRun → ℕ → Part) → Arriving → Result Settings SettingsFault → ℕ → Part
part_after_settings_by frames input (Err fault) = no_part
part_after_settings_by frames input (Ok settings) = part_after_opening (frames settings) (input settings)

-- the part of a replay of a run of frames with so many forwarders: without any after so many events, else after so many
-- rounds
abbrev pub parts_by : ℕ → ℕ → List (List ℕ) → List ℕ → Settings → InputRun → ℕ → Part
parts_by zero size ns output settings run = replayed_part settings output run
parts_by (suc workers) size ns output settings run = shared_part output size ns settings run

-- the part of a command with these numbers after so many rounds, or without forwarders after so many events
abbrev pub part_after_words_by : List NamedFile → List (List ℕ) → Option Words → ℕ → Part
part_after_words_by files ns (Some (Replay settings input output intake workers round)) =
    part_after_settings_by (parts_by workers round ns output) (arriving intake (content input files)) (settings_of (content settings files))
part_after_words_by files ns words = part_after_words files words

-- the part of a run of words with these numbers after so many rounds, or without forwarders after so many events
unfoldable pub part_with : List (List ℕ) → List NamedFile → List (List ℕ) → ℕ → Part
part_with words files ns = part_after_words_by files ns (words_of words)

-- a run that is cut short leaves a beginning of its answer, for some numbers that it may have
pub record EndsBy (may : List (List ℕ) → Type 0) (a : List (List ℕ) → Answer) (parts : List (List ℕ) → ℕ → Part) (old : Shown) (new : Option World) : Type 0 where
  pub ns : List (List ℕ)
  pub lawful : may ns
  pub ends : EndsFront (a ns) (parts ns) old new

-- a run of words that is cut short leaves a beginning of its answer, for some numbers that it may have
abbrev pub EndsWith : List (List ℕ) → List NamedFile → Shown → Option World → Type 0
EndsWith words files old new =
    EndsBy (λ ns. MayHave files ns (words_of words)) (answer_with words files) (part_with words files) old new

-- a run of a command that is cut short leaves a beginning of its answer, for some numbers that it may have
abbrev pub EndsAfter : List NamedFile → Option Words → Shown → Option World → Type 0
EndsAfter files words old new =
    EndsBy (λ ns. MayHave files ns words) (λ ns. after_words_by files ns words) (λ ns. part_after_words_by files ns words) old new

-- a replay with so many forwarders, by a settings text, that is cut short leaves a beginning of its answer, for some
-- numbers that it may have
abbrev pub EndsFor : ℕ → ℕ → List ℕ → Arriving → List ℕ → Shown → Option World → Type 0
EndsFor workers size output input text old new =
    EndsBy (λ ns. AreChosen workers size ns input (settings_of text)) (λ ns. after_settings_by (frames_by workers size ns output) input (settings_of text))
    (λ ns. part_after_settings_by (parts_by workers size ns output) input (settings_of text)) old new

-- a replay of a capture with so many forwarders, by lawful settings, that is cut short leaves a beginning of its
-- answer, for some numbers that it may have
abbrev pub EndsOf : ℕ → ℕ → Settings → List ℕ → Opened → Shown → Option World → Type 0
EndsOf workers size settings output input old new =
    EndsBy (λ ns. AreChosenOf workers size ns settings input) (λ ns. after_opening (frames_by workers size ns output settings) input)
    (λ ns. part_after_opening (parts_by workers size ns output settings) input) old new

-- a replay of a run of frames in rounds that is cut short leaves a beginning of its answer, for some numbers that it
-- may have
abbrev pub EndsRun : ℕ → Settings → List ℕ → InputRun → Shown → Option World → Type 0
EndsRun size settings output run old new =
    EndsBy (λ ns. Lawful settings run.frames size ns) (λ ns. shared output size ns settings run)
    (λ ns. shared_part output size ns settings run) old new
