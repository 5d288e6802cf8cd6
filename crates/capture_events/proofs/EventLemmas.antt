-- Events in order, and what is done for them.
use Rattle.std.proofs.Common.{◌≡◌, ℕ, suc, ◌-◌, List, [], ◌∷◌, ◌++◌, Option, Some, None, append_assoc, refl, sym, subst, ap, ap₂, ◌∙◌, map}
use Rattle.std.specs.List.{range_with_len, All}
use Rattle.std.proofs.lemmas.List.{append-nil}
use Rattle.std.proofs.lemmas.List.Elements.{All-cons, All-nil}
use Rattle.capture_io.specs.Frame.{Frame}
use Rattle.capture_events.specs.Events.{Event, Outcome, Packet, Played, Step, Tick, Arrival, Happens, Pause, End, GoesOn, arrivals, events_after, events_of, followed, happened, idle, played, second_of, steps_of}

-- the outcome of these parts
abbrev outcome_with : {S : Type 0} → S → List ℕ → List Packet → Outcome S
outcome_with after lines packets = record { lines = lines; packets = packets; after = after }

-- three outcomes in a row
followed-assoc : {S : Type 0} (a b c : Outcome S) → followed (followed a b) c ≡ followed a (followed b c)
followed-assoc a b c = ap₂ (outcome_with c.after) (append_assoc a.lines b.lines c.lines) (append_assoc a.packets b.packets c.packets)

-- some events, and then others
pub played-append : {S : Type 0} (step : S → Event → Outcome S) (state : S) (first others : List Event)
    → played step state (first ++ others) ≡ followed (played step state first) (played step (played step state first).after others)
played-append step state [] others = refl
played-append step state (event ∷ first) others =
    ap (followed (step state event)) (played-append step (step state event).after first others)
    ∙ sym (followed-assoc (step state event) (played step (step state event).after first) _)

-- nothing is done after an outcome
followed-still : {S : Type 0} (o : Outcome S) → followed o (idle o.after) ≡ o
followed-still o = ap₂ (outcome_with o.after) (append-nil o.lines) (append-nil o.packets)

-- steps were played, and then others
pub plays-append : {S : Type 0} (does : S → Step → Outcome S → Type 0) (start : S) (first others : List Step) (a b : Outcome S)
    → Played does start first a → Played does a.after others b → Played does start (first ++ others) (followed a b)
plays-append {S} does start [] others a b is next =
    subst (λ (o : Outcome S). Played does start others (followed o b)) (sym is) (subst (λ (o : Outcome S). Played does o.after others b) is next)
plays-append {S} does start (step ∷ first) others a b (one, rest, done, more, whole) next = (
  one,
  followed rest b,
  done,
  plays-append does one.after first others rest b more (subst (λ (o : Outcome S). Played does o.after others b) whole next),
  ap (λ (o : Outcome S). followed o b) whole ∙ followed-assoc one rest b,
)

-- the events among steps in a row
pub happened-append : (first others : List Step) → happened (first ++ others) ≡ happened first ++ happened others
happened-append [] others = refl
happened-append (Happens event ∷ first) others = ap (λ (l : List Event). event ∷ l) (happened-append first others)
happened-append (Pause ∷ first) others = happened-append first others
happened-append (End ∷ first) others = happened-append first others

pub happened-steps : (events : List Event) → happened (steps_of events) ≡ events
happened-steps [] = refl
happened-steps (event ∷ events) = ap (λ (l : List Event). event ∷ l) (happened-steps events)

-- events are no end
pub open-steps : (events : List Event) → All GoesOn (steps_of events)
open-steps [] = All-nil GoesOn
open-steps (event ∷ events) = All-cons GoesOn (Happens event) (steps_of events) tt (open-steps events)

-- a step alone
pub plays-one : {S : Type 0} (does : S → Step → Outcome S → Type 0) (start : S) (step : Step) (o : Outcome S) → does start step o → Played does start (step ∷ []) o
plays-one does start step o is = (o, idle o.after, is, refl, sym (followed-still o))

-- the frames among events in a row
arrivals-append : (first others : List Event) → arrivals (first ++ others) ≡ arrivals first ++ arrivals others
arrivals-append [] others = refl
arrivals-append (Tick second ∷ first) others = arrivals-append first others
arrivals-append (Arrival frame ∷ first) others = ap (λ (frames : List Frame). frame ∷ frames) (arrivals-append first others)

-- seconds bring no frames
arrivals-ticks : (seconds : List ℕ) → arrivals (map Tick seconds) ≡ []
arrivals-ticks [] = refl
arrivals-ticks (second ∷ seconds) = arrivals-ticks seconds

arrivals-of : (previous : Option ℕ) (frame : Frame) → arrivals (events_of previous frame) ≡ frame ∷ []
arrivals-of None frame = refl
arrivals-of (Some from) frame =
    let seconds = range_with_len (suc (second_of from)) (second_of frame.moment - second_of from) in
    arrivals-append (map Tick seconds) (Arrival frame ∷ []) ∙ ap (λ (frames : List Frame). frames ++ frame ∷ []) (arrivals-ticks seconds)

-- the frames of a capture are those of its events, in order
pub arrivals-events : (previous : Option ℕ) (frames : List Frame) → arrivals (events_after previous frames) ≡ frames
arrivals-events previous [] = refl
arrivals-events previous (frame ∷ frames) =
    arrivals-append (events_of previous frame) (events_after (Some frame.moment) frames)
    ∙ ap₂ (λ (a b : List Frame). a ++ b) (arrivals-of previous frame) (arrivals-events (Some frame.moment) frames)
