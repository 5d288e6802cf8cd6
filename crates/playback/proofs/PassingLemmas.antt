-- The frames of a capture one after another: which came and were played, and what is left.
use Rattle.std.proofs.Common.{◌≡◌, ◌≤◌, ℕ, length, List, [], ◌∷◌, ◌++◌, Option, Some, None, Result, Ok, Err, append_assoc, refl, sym, ap, ap₂, ◌∙◌, subst, inl, inr, arith, unwrap_or}
use Rattle.std.specs.List.{All}
use Rattle.std.proofs.lemmas.List.{append-nil, length-append}
use Rattle.std.proofs.lemmas.List.Elements.{All-append, All-cons, All-nil}
use Rattle.std.specs.Option.{IfSome, IsSomeAnd}
use Rattle.std.specs.Result.{IfOk, OnErr, OnOk}
use Rattle.desk.specs.World.{World, Shown, found_at, left_of, shown, shown_of}
use Rattle.capture_io.specs.Frame.{Frame}
use Rattle.capture_io.specs.Run.{AreLater, before, ended}
use Rattle.capture_events.specs.Came.{IsRead}
use Rattle.playback.specs.Arrivals.{Arrived}
use Rattle.capture_events.specs.Events.{AreStepsOf, End, Event, GoesOn, Outcome, Pause, Step, events, events_after, events_of, followed, happened, idle, records_of, steps_of}
use Rattle.playback.specs.Front.{Breaks, Cut, CutRun, Stands}
use Rattle.playback.specs.Input.{InputRun, IsNext, beginning, behind, left_in}
use Rattle.playback.specs.Limits.{most_frames}
use Rattle.playback.specs.Passing.{IsOver, Passed}
use Rattle.playback.specs.Playing.{handed_on, with_output, GathersOne, HasPlayed, KeepsReaders}
use Rattle.playback.specs.declared.fault.InputFault.{InputFault}
use Rattle.playback.specs.declared.output.Output.{Output}
use Rattle.playback.specs.declared.plays.Ending.{Ending}
use Rattle.playback.specs.declared.progress.Progress.{Progress}
use Rattle.capture_events.proofs.EventLemmas.{happened-append, happened-steps, open-steps}
use Rattle.playback.proofs.FrontLemmas.{breaks-cut, cut_here, stands-gathers, stands-hands, stands-played, stands_shown}
use Rattle.playback.proofs.OutputLemmas.{records_of-append, with_output-none}

-- steps of frames, and then those of events
steps-then : (frames all : List Frame) (steps : List Step) (more : List Event) → events all ≡ events frames ++ more → AreStepsOf frames steps → AreStepsOf all (steps ++ steps_of more)
steps-then frames all steps more joins are = record {
  events = happened-append steps (steps_of more) ∙ ap₂ (λ (a b : List Event). a ++ b) are.events (happened-steps more) ∙ sym joins;
  goes_on = All-append GoesOn steps (steps_of more) are.goes_on (open-steps more);
}

-- a pause among them
steps-pause : (frames : List Frame) (steps : List Step) → AreStepsOf frames steps → AreStepsOf frames (steps ++ Pause ∷ [])
steps-pause frames steps are = record {
  events = happened-append steps (Pause ∷ []) ∙ append-nil (happened steps) ∙ are.events;
  goes_on = All-append GoesOn steps (Pause ∷ []) are.goes_on (All-cons GoesOn Pause [] tt (All-nil GoesOn));
}

-- what is left of a file stays with the readers
left-kept : (id : ℕ) (a b : World) → KeepsReaders (Some a) (Some b) → left_of id b ≡ left_of id a
left-kept id a b keeps = ap (λ (o : Option (List (ℕ × List ℕ))). unwrap_or (found_at id (unwrap_or o [])) []) keeps

-- what a world leaves to a reader stays as long as no reader moves
abbrev pub StaysLeft : (World → InputRun) → Type 0
StaysLeft left = (a b : World) → KeepsReaders (Some a) (Some b) → left b ≡ left a

pub left_in-stays : {R : Type 0} (id : R → ℕ) (run : R → List ℕ → InputRun) (reader : R) → StaysLeft (left_in id run reader)
left_in-stays id run reader a b keeps = ap (run reader) (left-kept (id reader) a b keeps)

-- a reader that has the same file and the same to come has the same left
pub left_in-same : {R : Type 0} (id : R → ℕ) (run : R → List ℕ → InputRun) (one two : R) → id two ≡ id one → run two ≡ run one → left_in id run two ≡ left_in id run one
left_in-same id run one two same runs = ap₂ {C = World → InputRun} (λ (to_come : List ℕ → InputRun) (number : ℕ) (w : World). to_come (left_of number w)) runs same

-- a frame that may come next where fewer come may come where more do
pub next-within : (most : ℕ) (at : Progress) (f : Frame) → most ≤ most_frames → IsNext most at f → IsNext most_frames at f
next-within most at f few next = record {
  number = next.number;
  few = omega (arith, few, next.few);
  later = next.later;
  moment = next.moment;
  size = next.size;
  octets = next.octets;
}

-- a frame that came next was read
pub was-read : (at : Progress) (f : Frame) → IsNext most_frames at f → IsRead f
was-read at f next = record { moment = next.moment; octets = next.octets }

-- the frames with the one that was read
all-read : (frames : List Frame) (f : Frame) → All IsRead frames → IsRead f → All IsRead (frames ++ f ∷ [])
all-read frames f read one = All-append IsRead frames (f ∷ []) read (All-cons IsRead f [] one (All-nil IsRead))

-- those behind it are as late as it is
later-then : (frames : List Frame) (m : ℕ) (f : Frame) → m ≤ f.moment → ((more : List Frame) → AreLater m more → AreLater 0 (frames ++ more))
    → (more : List Frame) → AreLater f.moment more → AreLater 0 ((frames ++ f ∷ []) ++ more)
later-then frames m f after later more are = subst (AreLater 0) (sym (append_assoc frames (f ∷ []) more)) (later (f ∷ more) (after, are))

-- the events of a frame more
events-one : (frames : List Frame) (greatest : Option ℕ) (f : Frame) → ((more : List Frame) → events (frames ++ more) ≡ events frames ++ events_after greatest more)
    → events (frames ++ f ∷ []) ≡ events frames ++ events_of greatest f
events-one frames greatest f joins = joins (f ∷ []) ∙ ap (λ (l : List Event). events frames ++ l) (append-nil (events_of greatest f))

events-then : (frames : List Frame) (greatest : Option ℕ) (f : Frame) (more : List Frame) → ((more : List Frame) → events (frames ++ more) ≡ events frames ++ events_after greatest more)
    → events ((frames ++ f ∷ []) ++ more) ≡ events (frames ++ f ∷ []) ++ events_after (Some f.moment) more
events-then frames greatest f more joins =
    ap events (append_assoc frames (f ∷ []) more) ∙ joins (f ∷ more)
    ∙ sym (append_assoc (events frames) (events_of greatest f) (events_after (Some f.moment) more))
    ∙ ap (λ (l : List Event). l ++ events_after (Some f.moment) more) (sym (events-one frames greatest f joins))

-- the frame that is next is one of those that are left
next-left : (f : Frame) (frames : List Frame) (run left rest : InputRun) → frames ++ left.frames ≡ run.frames → left ≡ before f rest
    → (frames ++ f ∷ []) ++ rest.frames ≡ run.frames
next-left f frames run left rest whole is = append_assoc frames (f ∷ []) rest.frames ∙ ap (λ (r : InputRun). frames ++ r.frames) (sym is) ∙ whole

-- the frame that was next, and what is left behind it, where the desk tells it
abbrev pub IsBehind : Frame → (World → InputRun) → (World → InputRun) → Option World → Option World → Type 0
IsBehind f left rest mid read = IfSome mid (λ w. IsSomeAnd read (λ v. left w ≡ before f (rest v)))

module _ {S : Type 0} (does : S → Step → Outcome S → Type 0) (file : Option ℕ) where
  abbrev pub Passing : S → (World → InputRun) → (World → InputRun) → Progress → S → Output → Option World → Option World → Type 0
  Passing start run left at state output None now = Unit {0}
  Passing start run left at state output (Some w) now = IsSomeAnd now (Passed does file start (run w) (shown_of w) left at state output now)

  pub passing-first : (state : S) (run : World → InputRun) (at : Progress) (output : Output) (told : Option World) → at ≡ beginning → output.lines ≡ [] → output.records ≡ [] → output.written ≡ 0
      → Passing state run run at state output told told
  passing-first state run at output None is lines records none = tt
  passing-first state run at output (Some w) is lines records none =
      let here : Passed does file state (run w) (shown_of w) run beginning state output (Some w) w = record {
        frames = [];
        whole = refl;
        fault = refl;
        read = All-nil IsRead;
        later = λ more are. are;
        count = refl;
        most = omega arith;
        joins = λ more. refl;
        steps = [];
        steps_are = record { events = refl; goes_on = All-nil GoesOn };
        stands = record {
          first = [];
          others = [];
          whole = refl;
          done = idle state;
          held = idle state;
          is_done = refl;
          is_held = refl;
          state_is = refl;
          shown = ap Some (sym (with_output-none file (shown_of w)));
          lines = lines;
          records = records;
          written = none;
        };
      } in
      subst (λ (p : Progress). Passed does file state (run w) (shown_of w) run p state output (Some w) w) (sym is) here

  -- the frames that came so far
  came-so-far : (start : S) (run : InputRun) (old : Shown) (left : World → InputRun) (at : Progress) (state : S) (output : Output) (now : Option World) (w : World)
      → (p : Passed does file start run old left at state output now w) → Arrived p.frames
  came-so-far start run old left at state output now w p =
      let count = p.count in
      let most = p.most in
      record {
        read = p.read;
        later = subst (AreLater 0) (append-nil p.frames) (p.later [] tt);
        few = omega (arith, count, most);
      }

  -- with a frame more
  came-then : (frames : List Frame) (at : Progress) (f : Frame) → IsNext most_frames at f → All IsRead frames → at.frames ≡ length frames
      → ((more : List Frame) → AreLater (unwrap_or at.moment 0) more → AreLater 0 (frames ++ more)) → Arrived (frames ++ f ∷ [])
  came-then frames at f next read count later =
      let number = next.number in
      let most = next.few in
      let sum = length-append frames (f ∷ []) in
      record {
        read = all-read frames f read (was-read at f next);
        later = later (f ∷ []) (next.later, tt);
        few = omega (arith, number, most, sum, count);
      }

  -- a frame came and was played
  pub passing-on : (start : S) (run left rest : World → InputRun) (at : Progress) (state next : S) (old mid read now : Option World) (one two : Output) (f : Frame)
      → Passing start run left at state one old mid → IsBehind f left rest mid read → StaysLeft rest → IsNext most_frames at f
      → shown read ≡ shown mid → KeepsReaders read now
      → ((first : S) (shown_first : Shown) (past : List Step) → Stands does first file shown_first past state one read
      → Stands does first file shown_first (past ++ steps_of (events_of at.moment f)) next two now)
      → Passing start run rest (behind f) next two old now
  passing-on start run left rest at state next None mid read now one two f passing comes stays is same keeps goes = tt
  passing-on start run left rest at state next (Some w) None read now one two f passing comes stays is same keeps goes = absurd passing
  passing-on start run left rest at state next (Some w) (Some v) None now one two f passing comes stays is same keeps goes = absurd comes
  passing-on start run left rest at state next (Some w) (Some v) (Some r) None one two f passing comes stays is same keeps goes = cc
  passing-on start run left rest at state next (Some w) (Some v) (Some r) (Some u) one two f passing comes stays is same keeps goes =
      let frames = passing.frames in
      let more = events_of at.moment f in
      let kept : rest u ≡ rest r = stays r u keeps in
      let still = stands_shown does start file (shown_of w) passing.steps state one (Some v) (Some r) same passing.stands in
      let count = passing.count in
      let number = is.number in
      let most = is.few in
      let sum = length-append frames (f ∷ []) in
      record {
        frames = frames ++ f ∷ [];
        whole = ap (λ (l : InputRun). (frames ++ f ∷ []) ++ l.frames) kept ∙ next-left f frames (run w) (left v) (rest r) passing.whole comes;
        fault = ap (λ (l : InputRun). l.fault) kept ∙ ap (λ (l : InputRun). l.fault) (sym comes) ∙ passing.fault;
        read = all-read frames f passing.read (was-read at f is);
        later = later-then frames (unwrap_or at.moment 0) f is.later passing.later;
        count = omega (arith, number, count, sum);
        most = most;
        joins = λ more. events-then frames at.moment f more passing.joins;
        steps = passing.steps ++ steps_of more;
        steps_are = steps-then frames (frames ++ f ∷ []) passing.steps more (events-one frames at.moment f passing.joins) passing.steps_are;
        stands = goes start (shown_of w) passing.steps still;
      }

  -- what is left and the state may be those of others that are the same
  pub passing-as : (start : S) (run left rest : World → InputRun) (at : Progress) (state next : S) (output : Output) (old now : Option World)
      → rest ≡ left → next ≡ state → Passing start run left at state output old now → Passing start run rest at next output old now
  passing-as start run left rest at state next output old now same is passing =
      subst (λ (l : World → InputRun). Passing start run l at next output old now) (sym same)
      (subst (λ (s : S). Passing start run left at s output old now) (sym is) passing)

  -- a fault while the next frame is read
  pub cut_reading : (start : S) (run left : World → InputRun) (at : Progress) (state : S) (old mid now : Option World) (output : Output)
      → Passing start run left at state output old mid → shown now ≡ shown mid → IfSome old (λ w. CutRun does start file (shown_of w) (run w) now)
  cut_reading start run left at state None mid now output passing same = tt
  cut_reading start run left at state (Some w) None now output passing same = absurd passing
  cut_reading start run left at state (Some w) (Some v) now output passing same = record {
    frames = passing.frames;
    within = ((left v).frames, passing.whole);
    came = came-so-far start (run w) (shown_of w) left at state output (Some v) v passing;
    steps = passing.steps;
    steps_are = passing.steps_are;
    cut = inl (cut_here does start file (shown_of w) passing.steps state output now (stands_shown does start file (shown_of w) passing.steps state output (Some v) now same passing.stands));
  }

  -- one while a frame is played
  pub cut_playing : (start : S) (run left rest : World → InputRun) (at : Progress) (state : S) (old mid read now : Option World) (output : Output) (f : Frame)
      → Passing start run left at state output old mid → IsBehind f left rest mid read → IsNext most_frames at f → shown read ≡ shown mid
      → ((first : S) (shown_first : Shown) (past : List Step) → Stands does first file shown_first past state output read
      → Cut does first file shown_first (past ++ steps_of (events_of at.moment f)) now)
      → IfSome old (λ w. CutRun does start file (shown_of w) (run w) now)
  cut_playing start run left rest at state None mid read now output f passing comes is same goes = tt
  cut_playing start run left rest at state (Some w) None read now output f passing comes is same goes = absurd passing
  cut_playing start run left rest at state (Some w) (Some v) None now output f passing comes is same goes = absurd comes
  cut_playing start run left rest at state (Some w) (Some v) (Some r) now output f passing comes is same goes =
      let frames = passing.frames in
      let more = events_of at.moment f in
      let still = stands_shown does start file (shown_of w) passing.steps state output (Some v) (Some r) same passing.stands in
      record {
        frames = frames ++ f ∷ [];
        within = ((rest r).frames, next-left f frames (run w) (left v) (rest r) passing.whole comes);
        came = came-then frames at f is passing.read passing.count passing.later;
        steps = passing.steps ++ steps_of more;
        steps_are = steps-then frames (frames ++ f ∷ []) passing.steps more (events-one frames at.moment f passing.joins) passing.steps_are;
        cut = inl (goes start (shown_of w) passing.steps still);
      }

  -- the caller's work at a pause was gathered
  pub passing-pause : (start : S) (run left : World → InputRun) (at : Progress) (state next : S) (old now : Option World) (output new : Output)
      → Passing start run left at state output old now → GathersOne (does state Pause) output new next → Passing start run left at next new old now
  passing-pause start run left at state next None now output new passing gathers = tt
  passing-pause start run left at state next (Some w) None output new passing gathers = absurd passing
  passing-pause start run left at state next (Some w) (Some v) output new passing gathers = record {
    frames = passing.frames;
    whole = passing.whole;
    fault = passing.fault;
    read = passing.read;
    later = passing.later;
    count = passing.count;
    most = passing.most;
    joins = passing.joins;
    steps = passing.steps ++ Pause ∷ [];
    steps_are = steps-pause passing.frames passing.steps passing.steps_are;
    stands = stands-gathers does start file (shown_of w) passing.steps Pause state next output new (Some v) gathers passing.stands;
  }

  -- then all frames came
  frames-all : (frames : List Frame) (run left : InputRun) (fault : Option InputFault) → frames ++ left.frames ≡ run.frames → left ≡ ended fault → frames ≡ run.frames
  frames-all frames run left fault whole over = sym (append-nil frames) ∙ ap (λ (r : InputRun). frames ++ r.frames) (sym over) ∙ whole

  -- the end came
  pub passing-over : (start : S) (run left : World → InputRun) (at : Progress) (state : S) (old mid now : Option World) (output : Output) (fault : Option InputFault)
      → Passing start run left at state output old mid → IfSome mid (λ w. left w ≡ ended fault) → shown now ≡ shown mid
      → IfSome old (λ w. IsOver does file start (run w) (shown_of w) at.frames fault state output now)
  passing-over start run left at state None mid now output fault passing over same = tt
  passing-over start run left at state (Some w) None now output fault passing over same = absurd passing
  passing-over start run left at state (Some w) (Some v) now output fault passing over same =
      let all = frames-all passing.frames (run w) (left v) fault passing.whole over in
      let came = came-so-far start (run w) (shown_of w) left at state output (Some v) v passing in
      record {
        fault_is = ap (λ (r : InputRun). r.fault) (sym over) ∙ passing.fault;
        came = subst Arrived all came;
        count_is = passing.count ∙ ap length all;
        steps = passing.steps;
        steps_are = subst (λ (l : List Frame). AreStepsOf l passing.steps) all passing.steps_are;
        stands = stands_shown does start file (shown_of w) passing.steps state output (Some v) now same passing.stands;
      }

module _ {S : Type 0} (does : S → Step → Outcome S → Type 0) (file : Option ℕ) (start : S) (run : InputRun) (old : Shown) where
  -- the caller's work for the end was gathered, and all is handed on
  pub over-played : (count : ℕ) (fault : Option InputFault) (state next : S) (output new : Output) (mid now : Option World)
      → IsOver does file start run old count fault state output mid → GathersOne (does state End) output new next → now ≡ handed_on file new mid
      → HasPlayed does start file old run (record { fault = fault; frames = count; written = new.written }) next now
  over-played count fault state next output new mid now over gathers handed =
      let steps : List Step = over.steps ++ End ∷ [] in
      let closed = stands-gathers does start file old over.steps End state next output new mid gathers over.stands in
      let none : Output = record { lines = []; records = []; written = new.written } in
      let stands = stands-hands does start file old steps next new none mid now (inr (refl, refl, handed)) refl closed in
      let done = stands.done in
      let held = stands.held in
      let said : done.lines ≡ done.lines ++ held.lines = sym (append-nil done.lines) ∙ ap (λ (l : List ℕ). done.lines ++ l) stands.lines in
      let wrote : records_of done.packets ≡ records_of (done.packets ++ held.packets) =
      sym (append-nil (records_of done.packets)) ∙ ap (λ (o : List ℕ). records_of done.packets ++ o) stands.records ∙ sym (records_of-append done.packets held.packets) in
      record {
        steps = over.steps;
        steps_are = over.steps_are;
        outcome = followed done held;
        played = stands-played does start file old steps next none now stands;
        came = over.came;
        ends = record {
          fault = over.fault_is;
          frames = over.count_is;
          written = stands.written ∙ sym (length-append done.packets held.packets);
        };
        shown = stands.shown ∙ ap₂ (λ (l o : List ℕ). Some (with_output file l o old)) said wrote;
        left = stands.state_is;
      }

  -- a fault while it is
  pub over-cut : (count : ℕ) (fault : Option InputFault) (state next : S) (output new : Output) (mid now : Option World)
      → IsOver does file start run old count fault state output mid → GathersOne (does state End) output new next → Breaks file new mid now
      → CutRun does start file old run now
  over-cut count fault state next output new mid now over gathers breaks =
      let steps : List Step = over.steps ++ End ∷ [] in
      let closed = stands-gathers does start file old over.steps End state next output new mid gathers over.stands in
      record {
        frames = run.frames;
        within = ([], append-nil run.frames);
        came = over.came;
        steps = over.steps;
        steps_are = over.steps_are;
        cut = inr (refl, breaks-cut does start file old steps next new mid now breaks closed);
      }

module _ {S E : Type 0} (does : S → Step → Outcome S → Type 0) (file : Option ℕ) (start : S) (run : World → InputRun) where
  -- the same of what a call answers that hands all on
  pub ends-played : (told : Option World) (count : ℕ) (fault : Option InputFault) (state next : S) (output new : Output) (mid now : Option World) (result : Result Ending E)
      → IfSome told (λ w. IsOver does file start (run w) (shown_of w) count fault state output mid) → GathersOne (does state End) output new next
      → OnOk result (now ≡ handed_on file new mid) → IfOk result (λ ending. ending ≡ record { fault = fault; frames = count; written = new.written })
      → IfOk result (λ ending. IfSome told (λ w. HasPlayed does start file (shown_of w) (run w) ending next now))
  ends-played told count fault state next output new mid now (Err e) over gathers handed is = tt
  ends-played None count fault state next output new mid now (Ok ending) over gathers handed is = tt
  ends-played (Some w) count fault state next output new mid now (Ok ending) over gathers handed is =
      subst (λ (e : Ending). HasPlayed does start file (shown_of w) (run w) e next now) (sym is)
      (over-played does file start (run w) (shown_of w) count fault state next output new mid now over gathers handed)

  pub ends-cut : (told : Option World) (count : ℕ) (fault : Option InputFault) (state next : S) (output new : Output) (mid now : Option World) (result : Result Ending E)
      → IfSome told (λ w. IsOver does file start (run w) (shown_of w) count fault state output mid) → GathersOne (does state End) output new next
      → OnErr result (Breaks file new mid now)
      → OnErr result (IfSome told (λ w. CutRun does start file (shown_of w) (run w) now))
  ends-cut told count fault state next output new mid now (Ok ending) over gathers breaks = tt
  ends-cut None count fault state next output new mid now (Err e) over gathers breaks = tt
  ends-cut (Some w) count fault state next output new mid now (Err e) over gathers breaks =
      over-cut does file start (run w) (shown_of w) count fault state next output new mid now over gathers breaks
