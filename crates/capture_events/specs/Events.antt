-- The events of a capture, and the outcome of a machine that plays them one after another.
use Rattle.std.specs.Prelude.{◌≡◌, ℕ, suc, ◌-◌, ◌/◌, List, [], ◌∷◌, ◌++◌, flat_map, map, Option, Some, None}
use Rattle.std.specs.List.{range_with_len, All}
use Rattle.capture_io.specs.Frame.{Frame}
use Rattle.capture_io.specs.Output.{packet_record}

-- an event of a capture: a second that begins, or a frame that comes
pub data Event : Type 0 where
  Tick : ℕ → Event
  Arrival : Frame → Event

-- the second in which a moment lies
abbrev pub second_of : ℕ → ℕ
second_of moment = moment / 1000000000

-- the seconds that begin after the moment `from`, up to the moment `to` and including it; none without a `from`
abbrev pub ticks : Option ℕ → ℕ → List Event
ticks None to = []
ticks (Some from) to =
    map Tick (range_with_len (suc (second_of from)) (second_of to - second_of from))

-- the events of a frame: the seconds since the previous moment, then the frame
abbrev pub events_of : Option ℕ → Frame → List Event
events_of previous frame = ticks previous frame.moment ++ Arrival frame ∷ []

-- the events of frames that follow a previous moment: each frame behind the seconds before it
abbrev pub events_after : Option ℕ → List Frame → List Event
events_after previous [] = []
events_after previous (frame ∷ frames) =
    events_of previous frame ++ events_after (Some frame.moment) frames

-- the events of a capture: its frames and the seconds between them
abbrev pub events : List Frame → List Event
events frames = events_after None frames

-- the frames among events
abbrev pub arrivals : List Event → List Frame
arrivals [] = []
arrivals (Tick second ∷ events) = arrivals events
arrivals (Arrival frame ∷ events) = frame ∷ arrivals events

-- a written packet, with its moment in nanoseconds
pub record Packet : Type 0 where
  pub moment : ℕ
  pub octets : List ℕ

-- the octets of packets as records of a capture
abbrev pub records_of : List Packet → List ℕ
records_of packets = flat_map (λ packet. packet_record packet.moment packet.octets) packets

-- an outcome of playing: the lines and the written packets, in order, and the state after them
pub record Outcome (S : Type 0) : Type 0 where
  pub lines : List ℕ
  pub packets : List Packet
  pub after : S

-- the outcome without lines and packets, which leaves the state as it is
abbrev pub idle : {S : Type 0} → S → Outcome S
idle state = record { lines = []; packets = []; after = state }

-- two outcomes, one after the other: their lines and packets in order, and the state after the second
abbrev pub followed : {S : Type 0} → Outcome S → Outcome S → Outcome S
followed first next = record {
  lines = first.lines ++ next.lines;
  packets = first.packets ++ next.packets;
  after = next.after;
}

-- the outcome of events in order, by a function `step` that gives the outcome of each in the state before it
abbrev pub played : {S : Type 0} → (S → Event → Outcome S) → S → List Event → Outcome S
played step state [] = idle state
played step state (event ∷ events) =
    followed (step state event) (played step (step state event).after events)

-- ### what may be done

-- a step of a play: an event, a pause in which its caller works, or the end of the capture
pub data Step : Type 0 where
  Happens : Event → Step
  Pause : Step
  End : Step

-- the steps of events in order
abbrev pub steps_of : List Event → List Step
steps_of events = map Happens events

-- the events among steps
abbrev pub happened : List Step → List Event
happened [] = []
happened (Happens event ∷ steps) = event ∷ happened steps
happened (Pause ∷ steps) = happened steps
happened (End ∷ steps) = happened steps

-- a step that isn't the end
abbrev pub GoesOn : Step → Type 0
GoesOn (Happens event) = Unit {0}
GoesOn Pause = Unit {0}
GoesOn End = ⊥

-- the events of frames, with pauses among them
pub record AreStepsOf (frames : List Frame) (steps : List Step) : Type 0 where
  pub events : happened steps ≡ events frames
  pub goes_on : All GoesOn steps

-- the outcomes that steps may have in order, by a relation `does` of the outcomes that each of them may have
abbrev pub Played : {S : Type 0} → (S → Step → Outcome S → Type 0) → S → List Step → Outcome S → Type 0
Played does state [] outcome = outcome ≡ idle state
Played {S} does state (step ∷ steps) outcome =
    (first : Outcome S) × (rest : Outcome S) × does state step first × Played does first.after steps rest × (outcome ≡ followed first rest)

-- the relation `does` of a function `step`: an event has its outcome, a pause and the end have none and leave the state
abbrev pub Determined : {S : Type 0} → (S → Event → Outcome S) → S → Step → Outcome S → Type 0
Determined step state (Happens event) outcome = outcome ≡ step state event
Determined step state Pause outcome = outcome ≡ idle state
Determined step state End outcome = outcome ≡ idle state
