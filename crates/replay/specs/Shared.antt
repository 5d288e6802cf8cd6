-- The answer of a run with forwarders, by its words, the files, and the numbers that its report shows.
use Rattle.std.specs.Prelude.{◌≡◌, ◌≤◌, ℕ, zero, suc, Bool, true, false, List, [], Option, Some, Result, Ok, Err}
use Rattle.command_words.specs.Limits.{most_round_frames, most_workers}
use Rattle.command_words.specs.Words.{words_of}
use Rattle.command_words.specs.declared.words.Words.{Words}
use Rattle.command_words.specs.declared.words.Words.TheVariants.{Replay}
use Rattle.desk.specs.declared.file.NamedFile.{NamedFile}
use Rattle.desk.specs.World.{Shown, content}
use Rattle.lisp_settings.specs.Settings.{settings_of}
use Rattle.lisp_settings.specs.declared.fault.SettingsFault.{SettingsFault}
use Rattle.lisp_settings.specs.declared.settings.Settings.{Settings}
use Rattle.playback.specs.Input.{InputRun}
use Rattle.router_model.specs.Rounds.{Lawful, rounds}
use Rattle.replay.specs.Answer.{Answer, Gives, after_opening, after_words, answer_by, replayed, told_off}
use Rattle.replay.specs.Lines.{settings_line}
use Rattle.replay.specs.Opening.{Arriving, Opened, arriving}
use Rattle.replay.specs.declared.status.Status.{Status}
use Rattle.replay.specs.declared.status.Status.TheVariants.{Settings as BadSettings}

-- the answer to a replay of a run of frames into the file `output`, in rounds of that size with these numbers
unfoldable pub shared : List ℕ → ℕ → List (List ℕ) → Settings → InputRun → Answer
shared output size ns settings run = answer_by (rounds settings run.frames size ns) output run

-- the answer to a replay, by its settings or their fault, and by the answer to frames
abbrev pub after_settings_by : (Settings → InputRun → Answer) → Arriving → Result Settings SettingsFault → Answer
after_settings_by frames input (Err fault) = told_off BadSettings (settings_line fault)
after_settings_by frames input (Ok settings) = after_opening (frames settings) (input settings)

-- the answer to a replay of a run of frames with so many forwarders: without any that of the plain router, else that of
-- rounds with these numbers
abbrev pub frames_by : ℕ → ℕ → List (List ℕ) → List ℕ → Settings → InputRun → Answer
frames_by zero size ns output settings run = replayed settings output run
frames_by (suc workers) size ns output settings run = shared output size ns settings run

-- the answer to a command with these numbers, at a desk with these files; without forwarders that of the plain router
abbrev pub after_words_by : List NamedFile → List (List ℕ) → Option Words → Answer
after_words_by files ns (Some (Replay settings input output intake workers round)) =
    after_settings_by (frames_by workers round ns output) (arriving intake (content input files)) (settings_of (content settings files))
after_words_by files ns words = after_words files words

-- the answer to words with these numbers, at a desk with these files
unfoldable pub answer_with : List (List ℕ) → List NamedFile → List (List ℕ) → Answer
answer_with words files ns = after_words_by files ns (words_of words)

-- numbers that the data packets of a capture may have in rounds of that size; none where its header has a fault
abbrev pub AreNumbersOf : Settings → ℕ → List (List ℕ) → Opened → Type 0
AreNumbersOf settings size ns (Err fault) = ns ≡ []
AreNumbersOf settings size ns (Ok run) = Lawful settings run.frames size ns

-- numbers that the data packets of a capture may have, by the settings; none where these have a fault
abbrev pub AreNumbers : ℕ → List (List ℕ) → Arriving → Result Settings SettingsFault → Type 0
AreNumbers size ns input (Err fault) = ns ≡ []
AreNumbers size ns input (Ok settings) = AreNumbersOf settings size ns (input settings)

-- numbers that the data packets of a replay with so many forwarders may have; none without forwarders
abbrev pub AreChosen : ℕ → ℕ → List (List ℕ) → Arriving → Result Settings SettingsFault → Type 0
AreChosen zero size ns input settings = ns ≡ []
AreChosen (suc workers) size ns input settings = AreNumbers size ns input settings

-- numbers that the data packets of a command may have, at a desk with these files
abbrev pub MayHave : List NamedFile → List (List ℕ) → Option Words → Type 0
MayHave files ns (Some (Replay settings input output intake workers round)) =
    AreChosen workers round ns (arriving intake (content input files)) (settings_of (content settings files))
MayHave files ns words = ns ≡ []

-- a run gives its answer for some numbers that it may have
pub record GivesBy (may : List (List ℕ) → Type 0) (a : List (List ℕ) → Answer) (s : Status) (old : Shown) (new : Option Shown) : Type 0 where
  pub ns : List (List ℕ)
  pub lawful : may ns
  pub gives : Gives (a ns) s old new

-- a run of a command gives its answer, for some numbers that it may have
abbrev pub GivesAfter : List NamedFile → Option Words → Status → Shown → Option Shown → Type 0
GivesAfter files words s old new = GivesBy (λ ns. MayHave files ns words) (λ ns. after_words_by files ns words) s old new

-- a run of words gives its answer, for some numbers that it may have
pub record GivesWith (words : List (List ℕ)) (files : List NamedFile) (s : Status) (old : Shown) (new : Option Shown) : Type 0 where
  pub ns : List (List ℕ)
  pub lawful : MayHave files ns (words_of words)
  pub gives : Gives (answer_with words files ns) s old new

-- a replay with so many forwarders, by a settings text, gives its answer for some numbers that it may have
abbrev pub GivesFor : ℕ → ℕ → List ℕ → Arriving → List ℕ → Status → Shown → Option Shown → Type 0
GivesFor workers size output input text s old new =
    GivesBy (λ ns. AreChosen workers size ns input (settings_of text)) (λ ns. after_settings_by (frames_by workers size ns output) input (settings_of text)) s old new

-- numbers that the data packets of a capture may have with so many forwarders, by lawful settings
abbrev pub AreChosenOf : ℕ → ℕ → List (List ℕ) → Settings → Opened → Type 0
AreChosenOf workers size ns settings input = AreChosen workers size ns (λ _. input) (Ok settings)

-- a replay of a capture with so many forwarders, by lawful settings, gives its answer for some numbers that it may have
abbrev pub GivesOf : ℕ → ℕ → Settings → List ℕ → Opened → Status → Shown → Option Shown → Type 0
GivesOf workers size settings output input s old new =
    GivesBy (λ ns. AreChosenOf workers size ns settings input) (λ ns. after_opening (frames_by workers size ns output settings) input) s old new

-- whether a number of forwarders isn't 0
abbrev pub are_some : ℕ → Bool
are_some zero = false
are_some (suc workers) = true

-- whether a command is a replay with forwarders
abbrev pub has_workers : Option Words → Bool
has_workers (Some (Replay settings input output intake workers round)) = are_some workers
has_workers words = false

-- a crew is within the limits of the words: so many forwarders, and so many frames that make a round
abbrev pub MayWork : ℕ → ℕ → Type 0
MayWork workers round = (workers ≤ most_workers) × ((1 ≤ round) × (round ≤ most_round_frames))
