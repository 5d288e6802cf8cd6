-- A run with so many forwarders that is cut short, case by case.
use Rattle.std.proofs.Common.{◌≡◌, ◌≤◌, zero, suc, ℕ, false, List, [], length, Option, Some, None, Result, Ok, Err, arith, refl, sym, ap, subst}
use Rattle.std.specs.Option.{option_map, IfSome}
use Rattle.std.proofs.lemmas.Option.{IfSome_then}
use Rattle.command_words.specs.Words.{words_of}
use Rattle.command_words.specs.declared.words.Words.{Words}
use Rattle.command_words.specs.declared.words.Words.TheVariants.{Replay, Show, Trial, Audit}
use Rattle.desk.specs.World.{left_of, World, Shown, content, found_at, after_make, after_write, shown, shown_of}
use Rattle.desk.specs.declared.file.NamedFile.{NamedFile}
use Rattle.capture_io.specs.Frame.{Frame}
use Rattle.capture_io.specs.Output.{out_header}
use Rattle.lisp_settings.specs.Settings.{settings_of}
use Rattle.lisp_settings.specs.declared.fault.SettingsFault.{SettingsFault}
use Rattle.lisp_settings.specs.declared.settings.Settings.{Settings}
use Rattle.playback.specs.Input.{InputRun}
use Rattle.playback.specs.declared.fault.InputFault.{InputFault}
use Rattle.playback.proofs.FrontLemmas.{front-all}
use Rattle.router_model.specs.Cut.{cut}
use Rattle.router_model.specs.Plain.{started}
use Rattle.router_model.specs.Rounds.{Lawful, rounds, rounds_from}
use Rattle.router_model.proofs.SingleLemmas.{numbers-exist}
use Rattle.sharing.specs.Sharing.{HasSharedPart, first_rounds}
use Rattle.replay.specs.Answer.{Answer, after_opening, after_words, answer, closing, replayed, told_off}
use Rattle.replay.specs.Front.{EndsFront, MakesPart, Part, SaysPart, part, part_after_opening, part_after_settings, part_after_words, replayed_part}
use Rattle.replay.specs.Lines.{end_line, fault_line, settings_line}
use Rattle.replay.specs.Opening.{Arriving, Opened, arriving}
use Rattle.replay.specs.Readings.{HasReplayedBy, HasReplayedFile, HasReplayedFor}
use Rattle.replay.specs.Shared.{AreChosen, AreNumbers, AreNumbersOf, MayHave, after_settings_by, after_words_by, answer_with, frames_by, has_workers, shared}
use Rattle.replay.specs.SharedFront.{EndsAfter, EndsBy, EndsFor, EndsOf, EndsRun, EndsWith, part_after_settings_by, part_after_words_by, part_with, parts_by, shared_part}
use Rattle.replay.specs.declared.counts.Counts.{Counts}
use Rattle.replay.specs.declared.status.Status.TheVariants as status
use Rattle.replay.proofs.FrontCases.{by-count, frames_front, front_as, front_line, front_says, front_still, last_line_front, opening-zero, make_front, replayed-zero, words-zero}
use Rattle.replay.proofs.PlainFrontCases.{closing_front}
use Rattle.replay.proofs.SharedCases.{chosen-arriving, chosen-fault, plain-words}

-- ### there are numbers

run-numbers : (settings : Settings) (size : ℕ) (run : InputRun) → (ns : List (List ℕ)) × Lawful settings run.frames size ns
run-numbers settings size run = numbers-exist (started settings) None (cut size run.frames)

opening-numbers : (settings : Settings) (size : ℕ) (input : Opened) → (ns : List (List ℕ)) × AreNumbersOf settings size ns input
opening-numbers settings size (Err fault) = ([], refl)
opening-numbers settings size (Ok run) = run-numbers settings size run

settings-numbers : (size : ℕ) (input : Arriving) (r : Result Settings SettingsFault) → (ns : List (List ℕ)) × AreNumbers size ns input r
settings-numbers size input (Err fault) = ([], refl)
settings-numbers size input (Ok settings) = opening-numbers settings size (input settings)

chosen-numbers : (workers size : ℕ) (input : Arriving) (r : Result Settings SettingsFault) → (ns : List (List ℕ)) × AreChosen workers size ns input r
chosen-numbers zero size input r = ([], refl)
chosen-numbers (suc workers) size input r = settings-numbers size input r

words-numbers : (files : List NamedFile) (words : Option Words) → (ns : List (List ℕ)) × MayHave files ns words
words-numbers files None = ([], refl)
words-numbers files (Some (Replay settings input output intake workers round)) = chosen-numbers workers round (arriving intake (content input files)) (settings_of (content settings files))
words-numbers files (Some (Show input)) = ([], refl)
words-numbers files (Some (Trial n)) = ([], refl)
words-numbers files (Some (Audit settings input sent nonces)) = ([], refl)

-- what holds by whatever numbers holds by some that may be had
by-numbers : (may : World → List (List ℕ) → Type 0) (a : World → List (List ℕ) → Answer) (parts : World → List (List ℕ) → ℕ → Part) (old new : Option World)
    → ((w : World) → (ns : List (List ℕ)) × may w ns)
    → ((pick : World → List (List ℕ)) → IfSome old (λ w. EndsFront (a w (pick w)) (parts w (pick w)) (shown_of w) new))
    → IfSome old (λ w. EndsBy (may w) (a w) (parts w) (shown_of w) new)
by-numbers may a parts None new numbers ends = tt
by-numbers may a parts (Some w) new numbers ends =
    record { ns = (numbers w).0; lawful = (numbers w).1; ends = ends (λ v. (numbers v).0) }

-- ### before the first round nothing was said

run-zero : (output : List ℕ) (size : ℕ) (ns : List (List ℕ)) (settings : Settings) (run : InputRun) → (shared_part output size ns settings run 0).said ≡ []
unfolding shared_part
run-zero output size ns settings run = refl

chosen-zero : (workers size : ℕ) (ns : List (List ℕ)) (output : List ℕ) (input : Arriving) (r : Result Settings SettingsFault) → (part_after_settings_by (parts_by workers size ns output) input r 0).said ≡ []
chosen-zero workers size ns output input (Err fault) = refl
chosen-zero zero size ns output input (Ok settings) = opening-zero (parts_by zero size ns output settings) (input settings) (replayed-zero settings output)
chosen-zero (suc workers) size ns output input (Ok settings) = opening-zero (parts_by (suc workers) size ns output settings) (input settings) (run-zero output size ns settings)

after-zero : (files : List NamedFile) (ns : List (List ℕ)) (words : Option Words) → (part_after_words_by files ns words 0).said ≡ []
after-zero files ns None = refl
after-zero files ns (Some (Replay settings input output intake workers round)) = chosen-zero workers round ns output (arriving intake (content input files)) (settings_of (content settings files))
after-zero files ns (Some (Show input)) = words-zero files (Some (Show input))
after-zero files ns (Some (Trial n)) = refl
after-zero files ns (Some (Audit settings input sent nonces)) = refl

with-zero : (words : List (List ℕ)) (files : List NamedFile) (ns : List (List ℕ)) → (part_with words files ns 0).said ≡ []
unfolding part_with
with-zero words files ns = after-zero files ns (words_of words)

-- ### frames

-- the output was made only in part, or not at all
pub shares_output : (settings : Settings) (size : ℕ) (left : World → InputRun) (name : List ℕ) (old new : Option World) → MakesPart name old new
    → IfSome old (λ w. EndsRun size settings name (left w) (shown_of w) new)
unfolding shared shared_part
shares_output settings size left name None new makes = tt
shares_output settings size left name (Some w) new makes =
    let run = left w in
    let numbers = run-numbers settings size run in
    record { ns = numbers.0; lawful = numbers.1; ends = make_front (rounds settings run.frames size numbers.0) (first_rounds settings run.frames size numbers.0) name run w new refl makes }

-- a play that was cut short
run_part : (settings : Settings) (size id : ℕ) (name : List ℕ) (run : InputRun) (w : World) (new : Option World) → found_at id w.writers ≡ None
    → HasSharedPart size settings (Some id) (shown_of (after_write id out_header (after_make id name w))) run new → EndsRun size settings name run (shown_of w) new
unfolding shared shared_part
run_part settings size id name run w new fresh part = record {
  ns = part.ns;
  lawful = part.lawful;
  ends =
      let cuts = cut size run.frames in
      frames_front (rounds settings run.frames size part.ns) (first_rounds settings run.frames size part.ns) part.count (length cuts) name run id w new part.lines part.octets
      (ap (λ (l : List (List Frame)). rounds_from (started settings) None l part.ns) (by-count cuts cuts (front-all cuts))) fresh part.shown
      part.said part.sent part.reported part.written;
}

pub shares_part : (settings : Settings) (size id : ℕ) (from : ℕ) (rest : List ℕ → InputRun) (name : List ℕ) (old made new : Option World)
    → IfSome old (λ w. found_at id w.writers ≡ None) → made ≡ option_map (λ w. after_write id out_header (after_make id name w)) old
    → IfSome made (λ w. HasSharedPart size settings (Some id) (shown_of w) (rest (left_of from w)) new)
    → IfSome old (λ w. EndsRun size settings name (rest (left_of from w)) (shown_of w) new)
shares_part settings size id from rest name None made new fresh makes part = tt
shares_part settings size id from rest name (Some w) made new fresh makes part =
    run_part settings size id name (rest (left_of from w)) w new fresh (rw makes at part)

-- ### with so many forwarders

-- none: a beginning of the plain router's answer
pub ends_plain : (workers size : ℕ) (settings : Settings) (output : List ℕ) (run : InputRun) (old : Shown) (new : Option World) → workers ≡ zero
    → EndsFront (replayed settings output run) (replayed_part settings output run) old new → EndsOf workers size settings output (Ok run) old new
ends_plain workers size settings output run old new none ends = rw none (record { ns = []; lawful = refl; ends = ends })

-- some: one of that by rounds
pub ends_rounds : (workers size : ℕ) (settings : Settings) (output : List ℕ) (run : InputRun) (old : Shown) (new : Option World) → 1 ≤ workers
    → EndsRun size settings output run old new → EndsOf workers size settings output (Ok run) old new
ends_rounds zero size settings output run old new some ends = let none : ⊥ = omega (arith, some) in absurd none
ends_rounds (suc workers) size settings output run old new some ends = record { ns = ends.ns; lawful = ends.lawful; ends = ends.ends }

-- ### a file

-- it wasn't opened
pub file_unread : (workers size : ℕ) (settings : Settings) (output : List ℕ) (what : World → Opened) (old new : Option World) → shown new ≡ shown old
    → IfSome old (λ w. EndsOf workers size settings output (what w) (shown_of w) new)
file_unread workers size settings output what old new same =
    by-numbers _ (λ w ns. after_opening (frames_by workers size ns output settings) (what w)) (λ w ns. part_after_opening (parts_by workers size ns output settings) (what w)) old new
    (λ w. chosen-numbers workers size (λ _. what w) (Ok settings))
    (λ pick. front_still (λ w. after_opening (frames_by workers size (pick w) output settings) (what w)) (λ w. part_after_opening (parts_by workers size (pick w) output settings) (what w))
    old new (λ w. chosen-zero workers size (pick w) output (λ _. what w) (Ok settings)) same)

-- a part of its last line
run_line : (size : ℕ) (settings : Settings) (output : List ℕ) (run : InputRun) (counts : Counts) (w : World) (mid new : Option World) → (ns : List (List ℕ)) → Lawful settings run.frames size ns
    → HasReplayedBy (rounds settings run.frames size ns) output run counts (shown_of w) (shown mid) → SaysPart (closing counts.fault (end_line counts.frames counts.written counts.entries)) mid new
    → EndsRun size settings output run (shown_of w) new
unfolding shared shared_part
run_line size settings output run counts w mid new ns lawful has says =
    let cuts = cut size run.frames in
    record {
      ns = ns;
      lawful = lawful;
      ends = last_line_front (rounds settings run.frames size ns) (first_rounds settings run.frames size ns) (length cuts) output run counts w mid new
          (ap (λ (l : List (List Frame)). rounds_from (started settings) None l ns) (by-count cuts cuts (front-all cuts))) has says;
    }

line-for : (workers size : ℕ) (settings : Settings) (output : List ℕ) (run : InputRun) (counts : Counts) (w : World) (mid new : Option World)
    → HasReplayedFor workers size settings output run counts (shown_of w) (shown mid) → SaysPart (closing counts.fault (end_line counts.frames counts.written counts.entries)) mid new
    → EndsOf workers size settings output (Ok run) (shown_of w) new
line-for zero size settings output run counts w mid new has says =
    ends_plain zero size settings output run (shown_of w) new refl (closing_front settings output run counts w mid new has.replayed says)
line-for (suc workers) size settings output run counts w mid new has says =
    ends_rounds (suc workers) size settings output run (shown_of w) new (omega arith) (run_line size settings output run counts w mid new has.ns has.lawful has.replayed says)

pub file_line : (workers size : ℕ) (settings : Settings) (output : List ℕ) (what : World → Opened) (counts : Counts) (old mid new : Option World)
    → IfSome old (λ w. HasReplayedFile workers size settings output (what w) (Ok counts) (shown_of w) (shown mid))
    → SaysPart (closing counts.fault (end_line counts.frames counts.written counts.entries)) mid new
    → IfSome old (λ w. EndsOf workers size settings output (what w) (shown_of w) new)
file_line workers size settings output what counts None mid new has says = tt
file_line workers size settings output what counts (Some w) mid new has says = by (what w) has
  where
    by : (o : Opened) → HasReplayedFile workers size settings output o (Ok counts) (shown_of w) (shown mid) → EndsOf workers size settings output o (shown_of w) new
    by (Ok run) done = line-for workers size settings output run counts w mid new done says
    by (Err fault) done = absurd done

-- a part of the line of its header's fault
pub file_fault : (workers size : ℕ) (settings : Settings) (output : List ℕ) (what : World → Opened) (fault : InputFault) (old mid new : Option World)
    → IfSome old (λ w. HasReplayedFile workers size settings output (what w) (Err fault) (shown_of w) (shown mid))
    → SaysPart (fault_line fault) mid new
    → IfSome old (λ w. EndsOf workers size settings output (what w) (shown_of w) new)
file_fault workers size settings output what fault None mid new has says = tt
file_fault workers size settings output what fault (Some w) mid new has says = by (what w) has
  where
    by : (o : Opened) → HasReplayedFile workers size settings output o (Err fault) (shown_of w) (shown mid) → EndsOf workers size settings output o (shown_of w) new
    by (Ok run) done = absurd done
    by (Err other) done = record {
      ns = [];
      lawful = chosen-fault workers size settings other;
      ends = front_line (told_off status.Capture (fault_line other)) _ (fault_line fault) w mid new refl (ap fault_line (sym done.0)) refl done.1 says;
    }

-- ### settings

-- they weren't read
pub ends_unloaded : (workers size : ℕ) (output : List ℕ) (what : World → Arriving) (text : List ℕ) (old new : Option World) → shown new ≡ shown old
    → IfSome old (λ w. EndsFor workers size output (what w) (content text w.files) (shown_of w) new)
ends_unloaded workers size output what text old new same =
    by-numbers _ (λ w ns. after_settings_by (frames_by workers size ns output) (what w) (settings_of (content text w.files))) (λ w ns. part_after_settings_by (parts_by workers size ns output) (what w) (settings_of (content text w.files))) old new
    (λ w. chosen-numbers workers size (what w) (settings_of (content text w.files)))
    (λ pick. front_still (λ w. after_settings_by (frames_by workers size (pick w) output) (what w) (settings_of (content text w.files))) (λ w. part_after_settings_by (parts_by workers size (pick w) output) (what w) (settings_of (content text w.files)))
    old new (λ w. chosen-zero workers size (pick w) output (what w) (settings_of (content text w.files))) same)

-- they have none
abbrev EndsRead : ℕ → ℕ → List ℕ → Arriving → Result Settings SettingsFault → Shown → Option World → Type 0
EndsRead workers size output input r old new =
    EndsBy (λ ns. AreChosen workers size ns input r) (λ ns. after_settings_by (frames_by workers size ns output) input r)
    (λ ns. part_after_settings_by (parts_by workers size ns output) input r) old new

pub ends_settings : (workers size : ℕ) (settings : Settings) (output : List ℕ) (input : Arriving) (text : List ℕ) (old : Shown) (new : Option World) → Ok settings ≡ settings_of text
    → EndsOf workers size settings output (input settings) old new → EndsFor workers size output input text old new
ends_settings workers size settings output input text old new is ends =
    subst (λ (r : Result Settings SettingsFault). EndsRead workers size output input r old new) is
    (record { ns = ends.ns; lawful = chosen-arriving workers size ends.ns input settings ends.lawful; ends = ends.ends })

-- or a fault, and a part of its line was said
pub ends_refused : (workers size : ℕ) (output : List ℕ) (what : World → Arriving) (text : List ℕ) (fault : SettingsFault) (old mid new : Option World) → shown mid ≡ shown old
    → IfSome old (λ w. Err fault ≡ settings_of (content text w.files)) → SaysPart (settings_line fault) mid new
    → IfSome old (λ w. EndsFor workers size output (what w) (content text w.files) (shown_of w) new)
ends_refused workers size output what text fault old mid new same value says =
    by-numbers _ (λ w ns. after_settings_by (frames_by workers size ns output) (what w) (settings_of (content text w.files))) (λ w ns. part_after_settings_by (parts_by workers size ns output) (what w) (settings_of (content text w.files))) old new
    (λ w. chosen-numbers workers size (what w) (settings_of (content text w.files)))
    (λ pick. front_says (λ w. after_settings_by (frames_by workers size (pick w) output) (what w) (settings_of (content text w.files))) (λ w. part_after_settings_by (parts_by workers size (pick w) output) (what w) (settings_of (content text w.files)))
    (settings_line fault) old mid new (λ w. chosen-zero workers size (pick w) output (what w) (settings_of (content text w.files))) same
    (IfSome_then old value (λ w is. ap (λ (r : Result Settings SettingsFault). (after_settings_by (frames_by workers size (pick w) output) (what w) r).said) (sym is)))
    (IfSome_then old value (λ w is. ap (λ (r : Result Settings SettingsFault). (after_settings_by (frames_by workers size (pick w) output) (what w) r).made) (sym is))) says)

-- ### by the words

-- without forwarders the parts are those of a plain replay
plain-part-opening : (size : ℕ) (ns : List (List ℕ)) (output : List ℕ) (settings : Settings) (input : Opened)
    → part_after_opening (parts_by zero size ns output settings) input ≡ part_after_opening (replayed_part settings output) input
plain-part-opening size ns output settings (Ok run) = refl
plain-part-opening size ns output settings (Err fault) = refl

plain-part : (size : ℕ) (ns : List (List ℕ)) (output : List ℕ) (input : Arriving) (r : Result Settings SettingsFault)
    → part_after_settings_by (parts_by zero size ns output) input r ≡ part_after_settings output input r
plain-part size ns output input (Err fault) = refl
plain-part size ns output input (Ok settings) = plain-part-opening size ns output settings (input settings)

plain-part-words : (files : List NamedFile) (ns : List (List ℕ)) (words : Option Words) → has_workers words ≡ false → part_after_words_by files ns words ≡ part_after_words files words
plain-part-words files ns None none = refl
plain-part-words files ns (Some (Replay settings input output intake zero round)) none = plain-part round ns output (arriving intake (content input files)) (settings_of (content settings files))
plain-part-words files ns (Some (Replay settings input output intake (suc workers) round)) none = cc
plain-part-words files ns (Some (Show input)) none = refl
plain-part-words files ns (Some (Trial n)) none = refl
plain-part-words files ns (Some (Audit settings input sent nonces)) none = refl

-- words without forwarders
pub ends_after : (files : List NamedFile) (words : Option Words) (old : Shown) (new : Option World) → has_workers words ≡ false → MayHave files [] words
    → EndsFront (after_words files words) (part_after_words files words) old new → EndsAfter files words old new
ends_after files words old new none lawful ends =
    record { ns = []; lawful = lawful; ends = front_as _ _ _ _ old new (sym (plain-words files [] words none)) (sym (plain-part-words files [] words none)) ends }

-- by what words say
pub ends_with : (words : List (List ℕ)) (files : List NamedFile) (said : Option Words) (old : Shown) (new : Option World) → words_of words ≡ said
    → EndsAfter files said old new → EndsWith words files old new
unfolding answer_with part_with
ends_with words files said old new is ends = record {
  ns = ends.ns;
  lawful = rw is ends.lawful;
  ends = front_as _ _ _ _ old new (ap (after_words_by files ends.ns) (sym is)) (ap (part_after_words_by files ends.ns) (sym is)) ends.ends;
}

-- nothing was said
pub ends_still : (words : List (List ℕ)) (old new : Option World) → shown new ≡ shown old → IfSome old (λ w. EndsWith words w.files (shown_of w) new)
ends_still words old new same =
    by-numbers _ (λ w ns. answer_with words w.files ns) (λ w ns. part_with words w.files ns) old new (λ w. words-numbers w.files (words_of words))
    (λ pick. front_still (λ w. answer_with words w.files (pick w)) (λ w. part_with words w.files (pick w)) old new (λ w. with-zero words w.files (pick w)) same)

-- without forwarders a beginning of the plain router's answer is left
plain-ends : (words : List (List ℕ)) (files : List NamedFile) (old : Shown) (new : Option World) → has_workers (words_of words) ≡ false → EndsWith words files old new
    → EndsFront (answer words files) (part words files) old new
unfolding answer answer_with part part_with
plain-ends words files old new none ends =
    front_as _ _ _ _ old new (plain-words files ends.ns (words_of words) none) (plain-part-words files ends.ns (words_of words) none) ends.ends

-- and so it is as others see it
pub shown-ends : (words : List (List ℕ)) (told new : Option World) → has_workers (words_of words) ≡ false
    → IfSome told (λ w. EndsWith words w.files (shown_of w) new) → IfSome (shown told) (λ old. EndsFront (answer words old.files) (part words old.files) old new)
shown-ends words None new none ends = tt
shown-ends words (Some w) new none ends = plain-ends words w.files (shown_of w) new none ends
