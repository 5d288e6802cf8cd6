-- Packets that are compared with the records of a capture as they come, and the steps of a play from which they come.
use Rattle.std.specs.Prelude.{◌≡◌, ◌≤◌, ℕ, List, ◌++◌, drop, length, Option, None, IsSomeAnd, Result}
use Rattle.std.specs.Result.{MatchResult}
use Rattle.audit.specs.Compared.{all_expected, IfSame}
use Rattle.audit.specs.declared.outcome.Outcome.TheVariants.{Same}
use Rattle.auditing.specs.Auditing.{octets_of, run_in}
use Rattle.auditing.specs.Coming.{IsFaultOf, StaysBut}
use Rattle.auditing.specs.declared.holding.Holding.{Holding}
use Rattle.capture_events.specs.Events.{AreStepsOf, Outcome, Played, Step}
use Rattle.capture_io.specs.Limits.{most_records}
use Rattle.capture_io.specs.Run.{Run}
use Rattle.capture_io.specs.declared.fault.CaptureFault.{CaptureFault}
use Rattle.desk.specs.World.{World}
use Rattle.playback.specs.Arrivals.{Arrived}

-- the reader of a comparison has no fault, and gave a frame for each packet that is the same
pub record IsOpen (holding : Holding) : Type 0 where
  pub reader : holding.sent.fault ≡ None
  pub few : holding.sent.position.count ≤ most_records
  pub count : IfSame holding.auditor (λ packets. packets ≤ holding.sent.position.count)

-- packets were compared with the first frames of a run; the other frames are left in the world `w`, in which each other
-- id has as much left to read as in the world `base`
pub record IsHeld (packets : List (List ℕ)) (run : Run CaptureFault) (base : World) (holding : Holding) (w : World) : Type 0 where
  pub compares : holding.auditor ≡ all_expected (Same 0) packets run.frames
  pub frames : (run_in holding.sent w).frames ≡ drop (length packets) run.frames
  pub fault : (run_in holding.sent w).fault ≡ run.fault
  pub others : StaysBut holding.sent.id base w

-- further packets were compared, or the fault of the run came
abbrev pub HoldsMore : {T : Type 0} → List (List ℕ) → Holding → Option World → Result T CaptureFault → Holding → Option World → Type 0
HoldsMore more before told result after now =
    (packets : List (List ℕ)) (run : Run CaptureFault) (base : World)
    → IsSomeAnd told (IsHeld packets run base before)
    → MatchResult result (λ _. IsSomeAnd now (IsHeld (packets ++ more) run base after)) (IsFaultOf run)

module _ {S : Type 0} (does : S → Step → Outcome S → Type 0) where
  -- steps were played from the state `start` to `state`, and their packets compared with the frames of a run
  pub record Holds (start : S) (run : Run CaptureFault) (base : World) (steps : List Step) (state : S) (holding : Holding) (w : World) : Type 0 where
    pub outcome : Outcome S
    pub played : Played does start steps outcome
    pub state_is : state ≡ outcome.after
    pub held : IsHeld (octets_of outcome.packets) run base holding w

  -- further steps were played and compared, behind any earlier ones, or the fault of the run came
  abbrev pub Proceeds : {T : Type 0} → S → S → List Step → Holding → Option World → Result T CaptureFault → Holding → Option World → Type 0
  Proceeds before after steps holding told result new now =
      (start : S) (run : Run CaptureFault) (base : World) (past : List Step)
      → IsSomeAnd told (Holds start run base past before holding)
      → MatchResult result (λ _. IsSomeAnd now (Holds start run base (past ++ steps) after new)) (IsFaultOf run)

  -- all frames of a capture without a fault were read and played, and the packets of that play were compared
  pub record IsOver (start : S) (input sent : Run CaptureFault) (holding : Holding) (w : World) : Type 0 where
    pub fault : input.fault ≡ None
    pub came : Arrived input.frames
    pub steps : List Step
    pub steps_are : AreStepsOf input.frames steps
    pub state : S
    pub base : World
    pub holds : Holds start sent base steps state holding w
