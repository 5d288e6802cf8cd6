-- The answer of a run with so many forwarders, case by case.
use Rattle.std.proofs.Common.{◌≡◌, ◌≤◌, ◌∙◌, zero, suc, ℕ, false, List, [], Option, Some, None, Result, Ok, Err, arith, refl, sym, ap, subst}
use Rattle.std.specs.Option.{option_map, IfSome, IsSomeAnd}
use Rattle.command_words.specs.Words.{words_of}
use Rattle.command_words.specs.declared.words.Words.{Words}
use Rattle.command_words.specs.declared.words.Words.TheVariants.{Replay, Show, Trial, Audit}
use Rattle.desk.specs.World.{left_of, World, Shown, content, found_at, after_say, after_make, after_write, shown, shown_of}
use Rattle.desk.specs.declared.file.NamedFile.{NamedFile}
use Rattle.capture_io.specs.Output.{out_header}
use Rattle.lisp_settings.specs.Settings.{settings_of}
use Rattle.lisp_settings.specs.declared.fault.SettingsFault.{SettingsFault}
use Rattle.lisp_settings.specs.declared.settings.Settings.{Settings}
use Rattle.playback.specs.Input.{InputRun}
use Rattle.playback.specs.declared.fault.InputFault.{InputFault}
use Rattle.router_model.specs.Rounds.{rounds}
use Rattle.replay.specs.Answer.{Gives, Leaves, after_opening, after_settings, after_words, answer, answer_by, closing, replayed, status_of, told_off}
use Rattle.sharing.specs.Sharing as sharing
use Rattle.sharing.specs.declared.playing.RoundsEnding.{RoundsEnding}
use Rattle.replay.specs.Lines.{end_line, fault_line, settings_line}
use Rattle.replay.specs.Opening.{Arriving, Opened, arriving}
use Rattle.replay.specs.Readings.{HasReplayed, HasReplayedFile, HasReplayedFor, HasReplayedInRounds, outcome_for}
use Rattle.replay.specs.Shared.{AreChosen, AreChosenOf, GivesAfter, GivesBy, GivesFor, GivesOf, GivesWith, MayHave, after_settings_by, after_words_by, answer_with, frames_by, has_workers, shared}
use Rattle.replay.specs.declared.counts.Counts.{Counts}
use Rattle.replay.specs.declared.status.Status.{Status}
use Rattle.replay.specs.declared.status.Status.TheVariants as status
use Rattle.replay.proofs.AnswerCases.{closed, counts_of, gives_as, has_replayed, said_line, shown_stays}

-- what a play of rounds leaves, before its last line
run_shared : (settings : Settings) (size id : ℕ) (name : List ℕ) (run : InputRun) (w : World) (new : Option World) (ended : RoundsEnding)
    → found_at id w.writers ≡ None → sharing.HasShared size settings (Some id) (shown_of (after_write id out_header (after_make id name w))) run ended new
    → HasReplayedInRounds size settings name run (counts_of ended.ending ended.entries) (shown_of w) (shown new)
run_shared settings size id name run w new ended fresh played =
    record {
      ns = played.ns;
      lawful = played.lawful;
      replayed = has_replayed (rounds settings run.frames size played.ns) id name run w new ended.ending ended.entries fresh played.ends played.shown played.entries;
    }

-- the same, over what the desk tells
pub frames_shared : (settings : Settings) (size id : ℕ) (from : ℕ) (rest : List ℕ → InputRun) (name : List ℕ) (old made new : Option World) (ended : RoundsEnding)
    → IfSome old (λ w. found_at id w.writers ≡ None) → made ≡ option_map (λ w. after_write id out_header (after_make id name w)) old
    → IfSome made (λ w. sharing.HasShared size settings (Some id) (shown_of w) (rest (left_of from w)) ended new)
    → IfSome old (λ w. HasReplayedInRounds size settings name (rest (left_of from w)) (counts_of ended.ending ended.entries) (shown_of w) (shown new))
frames_shared settings size id from rest name None made new ended fresh makes played = tt
frames_shared settings size id from rest name (Some w) made new ended fresh makes played =
    run_shared settings size id name (rest (left_of from w)) w new ended fresh (rw makes at played)

-- ### with so many forwarders

-- none: the frames are replayed plainly
pub replays_plain : (workers size : ℕ) (settings : Settings) (output : List ℕ) (run : InputRun) (counts : Counts) (old : Shown) (new : Option Shown) → workers ≡ zero
    → HasReplayed settings output run counts old new → HasReplayedFor workers size settings output run counts old new
replays_plain workers size settings output run counts old new none has = rw none (record { ns = []; lawful = refl; replayed = has })

-- some: in rounds
pub replays_rounds : (workers size : ℕ) (settings : Settings) (output : List ℕ) (run : InputRun) (counts : Counts) (old : Shown) (new : Option Shown) → 1 ≤ workers
    → HasReplayedInRounds size settings output run counts old new → HasReplayedFor workers size settings output run counts old new
replays_rounds zero size settings output run counts old new some has = let none : ⊥ = omega (arith, some) in absurd none
replays_rounds (suc workers) size settings output run counts old new some has = record { ns = has.ns; lawful = has.lawful; replayed = has.replayed }

-- the answer is by their outcome
answer-for : (workers size : ℕ) (ns : List (List ℕ)) (settings : Settings) (output : List ℕ) (run : InputRun)
    → answer_by (outcome_for workers size ns settings run) output run ≡ frames_by workers size ns output settings run
unfolding replayed shared
answer-for zero size ns settings output run = refl
answer-for (suc workers) size ns settings output run = refl

-- where nothing is replayed there are no numbers
pub chosen-fault : (workers size : ℕ) (settings : Settings) (fault : InputFault) → AreChosenOf workers size [] settings (Err fault)
chosen-fault zero size settings fault = refl
chosen-fault (suc workers) size settings fault = refl

chosen-refused : (workers size : ℕ) (input : Arriving) (fault : SettingsFault) → AreChosen workers size [] input (Err fault)
chosen-refused zero size input fault = refl
chosen-refused (suc workers) size input fault = refl

-- the numbers of a capture are those of the replay
pub chosen-arriving : (workers size : ℕ) (ns : List (List ℕ)) (input : Arriving) (settings : Settings) → AreChosenOf workers size ns settings (input settings) → AreChosen workers size ns input (Ok settings)
chosen-arriving zero size ns input settings chosen = chosen
chosen-arriving (suc workers) size ns input settings chosen = chosen

-- the answer to a capture that was replayed
pub file_closed : (workers size : ℕ) (settings : Settings) (output : List ℕ) (what : World → Opened) (counts : Counts) (old mid new : Option World) (s : Status)
    → IfSome old (λ w. HasReplayedFile workers size settings output (what w) (Ok counts) (shown_of w) (shown mid))
    → new ≡ option_map (after_say (closing counts.fault (end_line counts.frames counts.written counts.entries))) mid → s ≡ status_of counts.fault
    → IfSome old (λ w. GivesOf workers size settings output (what w) s (shown_of w) (shown new))
file_closed workers size settings output what counts None mid new s has said is = tt
file_closed workers size settings output what counts (Some w) mid new s has said is = by (what w) has
  where
    by : (o : Opened) → HasReplayedFile workers size settings output o (Ok counts) (shown_of w) (shown mid) → GivesOf workers size settings output o s (shown_of w) (shown new)
    by (Ok run) done = record {
      ns = done.ns;
      lawful = done.lawful;
      gives = gives_as _ _ s (shown_of w) (shown new) (answer-for workers size done.ns settings output run) (closed (outcome_for workers size done.ns settings run) output run counts (shown_of w) mid new s done.replayed said is);
    }
    by (Err fault) done = absurd done

-- the answer to one whose header has a fault
pub file_refused : (workers size : ℕ) (settings : Settings) (output : List ℕ) (what : World → Opened) (fault : InputFault) (old mid new : Option World) (s : Status)
    → IfSome old (λ w. HasReplayedFile workers size settings output (what w) (Err fault) (shown_of w) (shown mid))
    → new ≡ option_map (after_say (fault_line fault)) mid → s ≡ status.Capture
    → IfSome old (λ w. GivesOf workers size settings output (what w) s (shown_of w) (shown new))
file_refused workers size settings output what fault None mid new s has said is = tt
file_refused workers size settings output what fault (Some w) mid new s has said is = by (what w) has
  where
    by : (o : Opened) → HasReplayedFile workers size settings output o (Err fault) (shown_of w) (shown mid) → GivesOf workers size settings output o s (shown_of w) (shown new)
    by (Ok run) done = absurd done
    by (Err other) done =
        let line = shown_stays (λ (o : Shown). Gives (told_off status.Capture (fault_line fault)) status.Capture o (shown new)) (Some w) mid done.1 (said_line status.Capture (fault_line fault) mid new said) in
        record {
          ns = [];
          lawful = chosen-fault workers size settings other;
          gives = subst (λ (f : InputFault). Gives (told_off status.Capture (fault_line f)) s (shown_of w) (shown new)) done.0 (rw is line);
        }

-- settings that have a fault, and those that have none
abbrev GivesRead : ℕ → ℕ → List ℕ → Arriving → Result Settings SettingsFault → Status → Shown → Option Shown → Type 0
GivesRead workers size output input r s old new =
    GivesBy (λ ns. AreChosen workers size ns input r) (λ ns. after_settings_by (frames_by workers size ns output) input r) s old new

pub gives_refused : (workers size : ℕ) (output : List ℕ) (input : Arriving) (text : List ℕ) (fault : SettingsFault) (s : Status) (old : Shown) (new : Option Shown) → Err fault ≡ settings_of text
    → Gives (told_off status.Settings (settings_line fault)) s old new → GivesFor workers size output input text s old new
gives_refused workers size output input text fault s old new is gives =
    subst (λ (r : Result Settings SettingsFault). GivesRead workers size output input r s old new) is (record { ns = []; lawful = chosen-refused workers size input fault; gives = gives })

pub gives_settings : (workers size : ℕ) (settings : Settings) (output : List ℕ) (input : Arriving) (text : List ℕ) (s : Status) (old : Shown) (new : Option Shown) → Ok settings ≡ settings_of text
    → GivesOf workers size settings output (input settings) s old new → GivesFor workers size output input text s old new
gives_settings workers size settings output input text s old new is gives =
    subst (λ (r : Result Settings SettingsFault). GivesRead workers size output input r s old new) is
    (record { ns = gives.ns; lawful = chosen-arriving workers size gives.ns input settings gives.lawful; gives = gives.gives })

-- ### by the words

-- without forwarders the frames are replayed plainly
plain-opening : (size : ℕ) (ns : List (List ℕ)) (output : List ℕ) (settings : Settings) (input : Opened)
    → after_opening (frames_by zero size ns output settings) input ≡ after_opening (replayed settings output) input
plain-opening size ns output settings (Ok run) = refl
plain-opening size ns output settings (Err fault) = refl

pub plain-settings : (size : ℕ) (ns : List (List ℕ)) (output : List ℕ) (input : Arriving) (r : Result Settings SettingsFault)
    → after_settings_by (frames_by zero size ns output) input r ≡ after_settings output input r
plain-settings size ns output input (Err fault) = refl
plain-settings size ns output input (Ok settings) = plain-opening size ns output settings (input settings)

-- words without forwarders
pub by_plain : (files : List NamedFile) (words : Words) (s : Status) (old : Shown) (new : Option Shown) → ((ns : List (List ℕ)) → after_words_by files ns (Some words) ≡ after_words files (Some words))
    → MayHave files [] (Some words) → Gives (after_words files (Some words)) s old new → GivesAfter files (Some words) s old new
by_plain files words s old new same lawful gives = record { ns = []; lawful = lawful; gives = gives_as _ _ s old new (sym (same [])) gives }

-- by what words say
pub gives_with : (words : List (List ℕ)) (files : List NamedFile) (said : Option Words) (s : Status) (old : Shown) (new : Option Shown) → words_of words ≡ said
    → GivesAfter files said s old new → GivesWith words files s old new
unfolding answer_with
gives_with words files said s old new is gives =
    record { ns = gives.ns; lawful = rw is gives.lawful; gives = gives_as _ _ s old new (ap (after_words_by files gives.ns) (sym is)) gives.gives }

-- numbers change no status
same-opening : (workers size : ℕ) (ns : List (List ℕ)) (output : List ℕ) (settings : Settings) (input : Opened)
    → (after_opening (frames_by workers size ns output settings) input).status ≡ (after_opening (replayed settings output) input).status
unfolding replayed shared
same-opening workers size ns output settings (Err fault) = refl
same-opening zero size ns output settings (Ok run) = refl
same-opening (suc workers) size ns output settings (Ok run) = refl

same-settings : (workers size : ℕ) (ns : List (List ℕ)) (output : List ℕ) (input : Arriving) (r : Result Settings SettingsFault)
    → (after_settings_by (frames_by workers size ns output) input r).status ≡ (after_settings output input r).status
same-settings workers size ns output input (Err fault) = refl
same-settings workers size ns output input (Ok settings) = same-opening workers size ns output settings (input settings)

same-words : (files : List NamedFile) (ns : List (List ℕ)) (words : Option Words) → (after_words_by files ns words).status ≡ (after_words files words).status
same-words files ns None = refl
same-words files ns (Some (Replay settings input output intake workers round)) =
    same-settings workers round ns output (arriving intake (content input files)) (settings_of (content settings files))
same-words files ns (Some (Show input)) = refl
same-words files ns (Some (Trial n)) = refl
same-words files ns (Some (Audit settings input sent nonces)) = refl

pub status-with : (words : List (List ℕ)) (files : List NamedFile) (s : Status) (old : Shown) (new : Option Shown) → GivesWith words files s old new → s ≡ (answer words files).status
unfolding answer answer_with
status-with words files s old new gives = gives.gives.status ∙ same-words files gives.ns (words_of words)

-- without forwarders the answer is that of the plain router
pub plain-words : (files : List NamedFile) (ns : List (List ℕ)) (words : Option Words) → has_workers words ≡ false → after_words_by files ns words ≡ after_words files words
plain-words files ns None none = refl
plain-words files ns (Some (Replay settings input output intake zero round)) none = plain-settings round ns output (arriving intake (content input files)) (settings_of (content settings files))
plain-words files ns (Some (Replay settings input output intake (suc workers) round)) none = cc
plain-words files ns (Some (Show input)) none = refl
plain-words files ns (Some (Trial n)) none = refl
plain-words files ns (Some (Audit settings input sent nonces)) none = refl

pub plain-with : (words : List (List ℕ)) (files : List NamedFile) (s : Status) (old : Shown) (new : Option Shown) → has_workers (words_of words) ≡ false → GivesWith words files s old new
    → Gives (answer words files) s old new
unfolding answer answer_with
plain-with words files s old new none gives = gives_as _ _ s old new (plain-words files gives.ns (words_of words) none) gives.gives

-- and so is what it leaves, as others see it
pub shown-left : (words : List (List ℕ)) (told : Option World) (s : Status) (new : Option Shown) → has_workers (words_of words) ≡ false
    → IfSome told (λ w. GivesWith words w.files s (shown_of w) new) → IfSome (shown told) (λ old. IsSomeAnd new (Leaves (answer words old.files) old))
shown-left words None s new none gives = tt
shown-left words (Some w) s new none gives = (plain-with words w.files s (shown_of w) new none gives).left
