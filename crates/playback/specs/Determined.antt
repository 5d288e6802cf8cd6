-- Plays in which the outcome of each event is determined: what they leave at the desk.
use Rattle.std.specs.Prelude.{◌≡◌, ℕ, List, Option, Some}
use Rattle.desk.specs.World.{World, Shown, shown}
use Rattle.capture_io.specs.Frame.{Frame}
use Rattle.playback.specs.Arrivals.{Arrived}
use Rattle.capture_events.specs.Events.{Determined, Event, Outcome, Played, Step, events, happened, played, records_of}
use Rattle.playback.specs.Front.{CutRun, IsFront}
use Rattle.playback.specs.Input.{InputRun}
use Rattle.playback.specs.Playing.{outcome_of, with_outcome, with_output, Ends, HasPlayed}
use Rattle.playback.specs.declared.plays.Ending.{Ending}

module _ {S : Type 0} (step : S → Event → Outcome S) (start : S) (file : Option ℕ) (old : Shown) where
  -- a capture was played to its end from `start`: report and file have all of its outcome, and the state is the one
  -- after it
  pub record EndPlay (run : InputRun) (ending : Ending) (after : S) (now : Option World) : Type 0 where
    pub came : Arrived run.frames
    pub ends : Ends (outcome_of step start run) run ending
    pub shown : shown now ≡ Some (with_outcome file (outcome_of step start run) old)
    pub left : after ≡ (outcome_of step start run).after

  -- a play was cut short: some frames of the capture were read, and report and file have a beginning of the outcome of
  -- their events; all lines of the first events are reported, and no packets but theirs are written
  pub record CutPlay (run : InputRun) (now : Option World) : Type 0 where
    pub frames : List Frame
    pub within : IsFront frames run.frames
    pub came : Arrived frames
    pub first : List Event
    pub front : IsFront first (events frames)
    pub lines : List ℕ
    pub octets : List ℕ
    pub shown : shown now ≡ Some (with_output file lines octets old)
    pub said : IsFront lines (played step start (events frames)).lines
    pub reported : IsFront (played step start first).lines lines
    pub written : IsFront octets (records_of (played step start first).packets)

-- ### laws

-- an outcome of steps that is determined at each event is the outcome of the events among the steps
abbrev pub StepsArePlayed : Type 0 → Type 0
StepsArePlayed S =
    (step : S → Event → Outcome S) (start : S) (steps : List Step) (outcome : Outcome S)
    → Played (Determined step) start steps outcome → outcome ≡ played step start (happened steps)

-- a play to the end leaves the outcome of the capture's events, where the outcome of each event is determined
abbrev pub EndsArePlayed : Type 0 → Type 0
EndsArePlayed S =
    (step : S → Event → Outcome S) (start : S) (file : Option ℕ) (old : Shown) (run : InputRun) (ending : Ending) (after : S) (now : Option World)
    → HasPlayed (Determined step) start file old run ending after now → EndPlay step start file old run ending after now

-- a play that is cut short leaves a beginning of the outcome of events, where the outcome of each event is determined
abbrev pub CutsArePlayed : Type 0 → Type 0
CutsArePlayed S =
    (step : S → Event → Outcome S) (start : S) (file : Option ℕ) (old : Shown) (run : InputRun) (now : Option World)
    → CutRun (Determined step) start file old run now → CutPlay step start file old run now
