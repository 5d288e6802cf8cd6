-- A show that is cut short.
use Rattle.std.proofs.Common.{◌≡◌, ℕ, List, [], ◌++◌, length, take, Option, Some, None, append_assoc, refl, sym, ap, ◌∙◌, inr}
use Rattle.std.specs.Option.{IfSome}
use Rattle.std.proofs.lemmas.List.{append-nil}
use Rattle.desk.specs.World.{World, Shown, shown, shown_of}
use Rattle.capture_events.specs.Events.{Determined, Event, Outcome, events, played}
use Rattle.playback.specs.Front.{CutRun, IsFront}
use Rattle.playback.specs.Input.{InputRun}
use Rattle.playback.specs.Playing.{outcome_of, with_outcome, with_output, Ends, HasPlayed}
use Rattle.playback.specs.declared.plays.Ending.{Ending}
use Rattle.playback.proofs.DeterminedLemmas.{cut-play, end-play}
use Rattle.playback.proofs.FrontLemmas.{front-all, front-behind, front-front, front-lines, front-more, front-take}
use Rattle.replay.specs.Answer.{closing, made_files, messages_shown}
use Rattle.replay.specs.Front.{EndsFront, SaysPart, shown_part}
use Rattle.replay.specs.Lines.{count_line}
use Rattle.replay.specs.Show.{showing}
use Rattle.replay.proofs.FrontCases.{by-count, front-events}

-- a show that was cut short
shown_front : (run : InputRun) (w : World) (new : Option World) (first : List Event) (lines octets : List ℕ) → shown new ≡ Some (with_output None lines octets (shown_of w))
    → IsFront first (events run.frames) → IsFront lines (played showing tt (events run.frames)).lines → IsFront (played showing tt first).lines lines
    → EndsFront (messages_shown run) (shown_part run) (shown_of w) new
unfolding messages_shown shown_part
shown_front run w new first lines octets same within said reported =
    let named : take (length first) (events run.frames) ≡ first = by-count first (events run.frames) within in
    rw same (record {
      lines = lines;
      made = [];
      count = length first;
      files = refl;
      said = refl;
      wrote = sym (append-nil (made_files w.writers));
      report = front-front lines (played showing tt (events run.frames)).lines _ said (front-more (played showing tt (events run.frames)).lines _);
      output = tt;
      reported = rw named reported;
      written = tt;
      closed = inr refl;
    })

pub messages_front : (left : World → InputRun) (old new : Option World)
    → IfSome old (λ w. CutRun (Determined showing) tt None (shown_of w) (left w) new)
    → IfSome old (λ w. EndsFront (messages_shown (left w)) (shown_part (left w)) (shown_of w) new)
messages_front left None new cut = tt
messages_front left (Some w) new cut_run =
    let run = left w in
    let cut = cut-play showing tt None (shown_of w) run new cut_run in
    let within = front-events cut.frames run.frames cut.within in
    shown_front run w new cut.first cut.lines cut.octets cut.shown (front-front cut.first (events cut.frames) (events run.frames) cut.front within)
    (front-front cut.lines (played showing tt (events cut.frames)).lines (played showing tt (events run.frames)).lines cut.said (front-lines showing tt (events cut.frames) (events run.frames) within)) cut.reported

-- a part of the last line of a show
last_front : (run : InputRun) (w : World) (mid new : Option World) (ending : Ending) → Ends (outcome_of showing tt run) run ending
    → shown mid ≡ Some (with_outcome None (outcome_of showing tt run) (shown_of w)) → SaysPart (closing ending.fault (count_line ending.frames)) mid new
    → EndsFront (messages_shown run) (shown_part run) (shown_of w) new
unfolding messages_shown shown_part
last_front run w None new ending ends frames says = cc
last_front run w (Some v) new ending ends frames says =
    let outcome : Outcome (Unit {0}) = outcome_of showing tt run in
    let is_aim : shown_of v ≡ record (shown_of w) { said = w.said ++ outcome.lines } = cc in
    let last = closing ending.fault (count_line ending.frames) in
    let line : last ≡ closing run.fault (count_line (length run.frames)) = rw (ends.fault, ends.frames) refl in
    let all = events run.frames in
    let whole : take (length all) all ≡ all = by-count all all (front-all all) in
    rw says.1 (record {
      lines = outcome.lines ++ take says.0 last;
      made = [];
      count = length all;
      files = ap (λ (x : Shown). x.files) is_aim;
      said = ap (λ (x : Shown). x.said ++ take says.0 last) is_aim ∙ append_assoc w.said outcome.lines (take says.0 last);
      wrote = ap (λ (x : Shown). made_files x.writers) is_aim ∙ sym (append-nil (made_files w.writers));
      report = front-behind outcome.lines (take says.0 last) last _ (ap (λ (l : List ℕ). outcome.lines ++ l) line) (front-take says.0 last);
      output = tt;
      reported = rw whole (front-more outcome.lines (take says.0 last));
      written = tt;
      closed = inr refl;
    })

pub line_front : (left : World → InputRun) (old mid new : Option World) (ending : Ending)
    → IfSome old (λ w. HasPlayed (Determined showing) tt None (shown_of w) (left w) ending tt mid)
    → SaysPart (closing ending.fault (count_line ending.frames)) mid new
    → IfSome old (λ w. EndsFront (messages_shown (left w)) (shown_part (left w)) (shown_of w) new)
line_front left None mid new ending has says = tt
line_front left (Some w) mid new ending has says =
    let run = left w in
    let ended = end-play showing tt None (shown_of w) run ending tt mid has in
    last_front run w mid new ending ended.ends ended.shown says
