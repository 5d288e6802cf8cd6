-- The frames of a capture, one after another: which were played, and what is left.
use Rattle.std.proofs.Common.{◌≡◌, ◌≢◌, ◌≤◌, ℕ, length, List, [], ◌∷◌, ◌++◌, Option, Some, None, Ok, append_assoc, refl, sym, ap, ap₂, ◌∙◌, subst, arith, unwrap_or}
use Rattle.std.specs.List.{All}
use Rattle.std.specs.Option.{IfSome, IsSomeAnd}
use Rattle.std.proofs.lemmas.List.{append-nil, length-append}
use Rattle.std.proofs.lemmas.List.Elements.{All-append, All-cons, All-nil}
use Rattle.audit.specs.declared.outcome.Outcome.TheVariants.{Same}
use Rattle.desk.specs.World.{World, left_of}
use Rattle.capture_io.specs.Frame.{Frame}
use Rattle.capture_io.specs.Frames.{read_on}
use Rattle.capture_io.specs.Reading.{IsNext, Reading}
use Rattle.capture_io.specs.Run.{AreLater, Run}
use Rattle.capture_io.specs.declared.fault.CaptureFault.{CaptureFault}
use Rattle.capture_events.specs.Came.{IsRead}
use Rattle.capture_events.specs.Events.{AreStepsOf, Event, GoesOn, Outcome, Step, events, events_after, events_of, idle, steps_of}
use Rattle.capture_events.proofs.EventLemmas.{happened-append, happened-steps, open-steps}
use Rattle.playback.specs.Arrivals.{Arrived}
use Rattle.playback.specs.Limits.{most_frames}
use Rattle.playback.specs.declared.progress.Progress.{Progress}
use Rattle.auditing.specs.Auditing.{run_in}
use Rattle.auditing.specs.Coming.{Comes, IsFaultOf}
use Rattle.auditing.specs.Holding.{Holds, IsHeld, IsOver}
use Rattle.auditing.specs.declared.holding.Holding.{Holding}

-- steps of frames, and then those of events
steps-then : (frames all : List Frame) (steps : List Step) (more : List Event) → events all ≡ events frames ++ more → AreStepsOf frames steps → AreStepsOf all (steps ++ steps_of more)
steps-then frames all steps more joins are = record {
  events = happened-append steps (steps_of more) ∙ ap₂ (λ (a b : List Event). a ++ b) are.events (happened-steps more) ∙ sym joins;
  goes_on = All-append GoesOn steps (steps_of more) are.goes_on (open-steps more);
}

-- those behind a frame are as late as it is
later-then : (frames : List Frame) (m : ℕ) (f : Frame) → m ≤ f.moment → ((more : List Frame) → AreLater m more → AreLater 0 (frames ++ more))
    → (more : List Frame) → AreLater f.moment more → AreLater 0 ((frames ++ f ∷ []) ++ more)
later-then frames m f after later more are = subst (AreLater 0) (sym (append_assoc frames (f ∷ []) more)) (later (f ∷ more) (after, are))

-- the events of a frame more
events-one : (frames : List Frame) (greatest : Option ℕ) (f : Frame) → ((more : List Frame) → events (frames ++ more) ≡ events frames ++ events_after greatest more)
    → events (frames ++ f ∷ []) ≡ events frames ++ events_of greatest f
events-one frames greatest f joins = joins (f ∷ []) ∙ ap (λ (l : List Event). events frames ++ l) (append-nil (events_of greatest f))

events-then : (frames : List Frame) (greatest : Option ℕ) (f : Frame) (more : List Frame) → ((more : List Frame) → events (frames ++ more) ≡ events frames ++ events_after greatest more)
    → events ((frames ++ f ∷ []) ++ more) ≡ events (frames ++ f ∷ []) ++ events_after (Some f.moment) more
events-then frames greatest f more joins =
    ap events (append_assoc frames (f ∷ []) more) ∙ joins (f ∷ more)
    ∙ sym (append_assoc (events frames) (events_of greatest f) (events_after (Some f.moment) more))
    ∙ ap (λ (l : List Event). l ++ events_after (Some f.moment) more) (sym (events-one frames greatest f joins))

-- what a reader has still to give, where as much is left of its id
run-as : (r : Reading) (a b : World) → left_of r.id b ≡ left_of r.id a → run_in r b ≡ run_in r a
run-as r a b same = ap (read_on r.format r.position) same

-- what was held in a world, in another one in which as much is left of what was sent
held-there : (packets : List (List ℕ)) (run : Run CaptureFault) (base a b : World) (holding : Holding) → left_of holding.sent.id b ≡ left_of holding.sent.id a
    → IsHeld packets run base holding a → IsHeld packets run b holding b
held-there packets run base a b holding same held =
    let left = run-as holding.sent a b same in
    record {
      compares = held.compares;
      frames = ap (λ (r : Run CaptureFault). r.frames) left ∙ held.frames;
      fault = ap (λ (r : Run CaptureFault). r.fault) left ∙ held.fault;
      others = λ other apart. refl;
    }

module _ {S : Type 0} (does : S → Step → Outcome S → Type 0) where
  holds-there : (start : S) (run : Run CaptureFault) (base a b : World) (steps : List Step) (state : S) (holding : Holding) → left_of holding.sent.id b ≡ left_of holding.sent.id a
      → Holds does start run base steps state holding a → Holds does start run b steps state holding b
  holds-there start run base a b steps state holding same holds = record {
    outcome = holds.outcome;
    played = holds.played;
    state_is = holds.state_is;
    held = held-there _ run base a b holding same holds.held;
  }

  -- frames came and were played, and their packets held, and the others are left
  pub record Passes (start : S) (run sent : Run CaptureFault) (reader : Reading) (at : Progress) (state : S) (holding : Holding) (w : World) : Type 0 where
    pub frames : List Frame
    pub whole : frames ++ (run_in reader w).frames ≡ run.frames
    pub fault : (run_in reader w).fault ≡ run.fault
    pub read : All IsRead frames
    pub later : (more : List Frame) → AreLater (unwrap_or at.moment 0) more → AreLater 0 (frames ++ more)
    pub count : at.frames ≡ length frames
    pub joins : (more : List Frame) → events (frames ++ more) ≡ events frames ++ events_after at.moment more
    pub steps : List Step
    pub steps_are : AreStepsOf frames steps
    pub base : World
    pub holds : Holds does start sent base steps state holding w

  -- of what two readers had to give in a world
  abbrev pub Passing : S → Reading → Reading → Option World → Reading → Progress → S → Holding → Option World → Type 0
  Passing start input sent told reader at state holding now = IfSome told (λ w. IsSomeAnd now (Passes start (run_in input w) (run_in sent w) reader at state holding))

  pub passing-first : (start : S) (input : Reading) (at : Progress) (holding : Holding) (told : Option World) → at.frames ≡ 0 → at.moment ≡ None → holding.auditor ≡ Same 0
      → Passing start input holding.sent told input at start holding told
  passing-first start input at holding None none never same = tt
  passing-first start input at holding (Some w) none never same = record {
    frames = [];
    whole = refl;
    fault = refl;
    read = All-nil IsRead;
    later = λ more are. subst (λ (o : Option ℕ). AreLater (unwrap_or o 0) more) never are;
    count = none;
    joins = λ more. ap (λ (o : Option ℕ). events_after o more) (sym never);
    steps = [];
    steps_are = record { events = refl; goes_on = All-nil GoesOn };
    base = w;
    holds = record {
      outcome = idle start;
      played = refl;
      state_is = refl;
      held = record { compares = same; frames = refl; fault = refl; others = λ other apart. refl };
    };
  }

  -- a frame came, and was played
  pub passing-on : (start : S) (input sent reader next : Reading) (at : Progress) (state after : S) (a b : Holding) (told mid read now : Option World) (f : Frame)
      → Passing start input sent told reader at state a mid → IfSome mid (λ v. Comes (Ok (Some f)) reader next v read)
      → next.id ≡ reader.id → reader.id ≢ a.sent.id → b.sent.id ≡ a.sent.id → at.frames ≡ reader.position.count → at.moment ≡ reader.position.greatest → IsNext reader.format reader.position f
      → ((start : S) (run : Run CaptureFault) (base : World) (past : List Step) → IsSomeAnd read (Holds does start run base past state a)
      → IsSomeAnd now (Holds does start run base (past ++ steps_of (events_of at.moment f)) after b))
      → Passing start input sent told next (record { frames = f.number; moment = Some f.moment }) after b now
  passing-on start input sent reader next at state after a b None mid read now f passing comes same apart id count moment is goes = tt
  passing-on start input sent reader next at state after a b (Some w) None read now f passing comes same apart id count moment is goes = absurd passing
  passing-on start input sent reader next at state after a b (Some w) (Some v) None now f passing comes same apart id count moment is goes = absurd comes
  passing-on start input sent reader next at state after a b (Some w) (Some v) (Some r) now f passing comes same apart id count moment is goes =
      let stays = comes.1 a.sent.id (λ e. apart (sym e)) in
      on now (goes start (run_in sent w) r passing.steps (holds-there start (run_in sent w) passing.base v r passing.steps state a stays passing.holds))
    where
      on : (now : Option World) → IsSomeAnd now (Holds does start (run_in sent w) r (passing.steps ++ steps_of (events_of at.moment f)) after b)
          → IsSomeAnd now (Passes start (run_in input w) (run_in sent w) next (record { frames = f.number; moment = Some f.moment }) after b)
      on None holds = absurd holds
      on (Some u) holds =
          let frames = passing.frames in
          let more = events_of at.moment f in
          let left = run-as next r u (holds.held.others next.id (λ e. apart (sym same ∙ e ∙ id))) in
          let sum = length-append frames (f ∷ []) in
          let so_far = passing.count in
          let number = is.number in
          record {
            frames = frames ++ f ∷ [];
            whole = append_assoc frames (f ∷ []) _ ∙ ap (λ (r : Run CaptureFault). frames ++ f ∷ r.frames) left ∙ ap (λ (r : Run CaptureFault). frames ++ r.frames) (sym comes.0) ∙ passing.whole;
            fault = ap (λ (r : Run CaptureFault). r.fault) left ∙ ap (λ (r : Run CaptureFault). r.fault) (sym comes.0) ∙ passing.fault;
            read = All-append IsRead frames (f ∷ []) passing.read (All-cons IsRead f [] (record { moment = is.moment; octets = is.octets }) (All-nil IsRead));
            later = later-then frames (unwrap_or at.moment 0) f (subst (λ (o : Option ℕ). unwrap_or o 0 ≤ f.moment) (sym moment) is.later) passing.later;
            count = omega (arith, number, count, so_far, sum);
            joins = λ more. events-then frames at.moment f more passing.joins;
            steps = passing.steps ++ steps_of more;
            steps_are = steps-then frames (frames ++ f ∷ []) passing.steps more (events-one frames at.moment f passing.joins) passing.steps_are;
            base = r;
            holds = holds;
          }

  -- the end came
  pub passing-over : (start : S) (input sent reader next : Reading) (at : Progress) (state : S) (holding : Holding) (told mid now : Option World)
      → Passing start input sent told reader at state holding mid → IfSome mid (λ v. Comes (Ok None) reader next v now) → reader.id ≢ holding.sent.id → at.frames ≤ most_frames
      → IfSome told (λ w. IsSomeAnd now (IsOver does start (run_in input w) (run_in sent w) holding))
  passing-over start input sent reader next at state holding None mid now passing comes apart few = tt
  passing-over start input sent reader next at state holding (Some w) None now passing comes apart few = absurd passing
  passing-over start input sent reader next at state holding (Some w) (Some v) None passing comes apart few = absurd comes.1
  passing-over start input sent reader next at state holding (Some w) (Some v) (Some u) passing comes apart few =
      let frames = passing.frames in
      let count = passing.count in
      let all : frames ≡ (run_in input w).frames = sym (append-nil frames) ∙ ap (λ (r : Run CaptureFault). frames ++ r.frames) (sym comes.0) ∙ passing.whole in
      record {
        fault = sym passing.fault ∙ ap (λ (r : Run CaptureFault). r.fault) comes.0;
        came = subst Arrived all (record { read = passing.read; later = subst (AreLater 0) (append-nil frames) (passing.later [] tt); few = omega (arith, count, few) });
        steps = passing.steps;
        steps_are = subst (λ (l : List Frame). AreStepsOf l passing.steps) all passing.steps_are;
        state = state;
        base = u;
        holds = holds-there start (run_in sent w) passing.base v u passing.steps state holding (comes.1.1 holding.sent.id (λ e. apart (sym e))) passing.holds;
      }

  -- a fault of what was sent, while a frame is played
  pub passing-sent : (start : S) (input sent reader next : Reading) (at : Progress) (state : S) (a : Holding) (told mid read : Option World) (f : Frame) (fault : CaptureFault)
      → Passing start input sent told reader at state a mid → IfSome mid (λ v. Comes (Ok (Some f)) reader next v read) → reader.id ≢ a.sent.id
      → ((start : S) (run : Run CaptureFault) (base : World) (past : List Step) → IsSomeAnd read (Holds does start run base past state a) → IsFaultOf run fault)
      → IfSome told (λ w. IsFaultOf (run_in sent w) fault)
  passing-sent start input sent reader next at state a None mid read f fault passing comes apart goes = tt
  passing-sent start input sent reader next at state a (Some w) None read f fault passing comes apart goes = absurd passing
  passing-sent start input sent reader next at state a (Some w) (Some v) None f fault passing comes apart goes = absurd comes
  passing-sent start input sent reader next at state a (Some w) (Some v) (Some r) f fault passing comes apart goes =
      let stays = comes.1 a.sent.id (λ e. apart (sym e)) in
      goes start (run_in sent w) r passing.steps (holds-there start (run_in sent w) passing.base v r passing.steps state a stays passing.holds)
