-- The next frame of a capture, and a run of its reader to the end or to a fault.
use Rattle.std.specs.Prelude.{◌≡◌, ◌≢◌, ℕ, false, Option, Some, None, IsSomeAnd, Result, Ok, Err}
use Rattle.desk.specs.World.{World, left_of}
use Rattle.capture_io.specs.Answers.{is_outside_fault}
use Rattle.capture_io.specs.Frame.{Frame}
use Rattle.capture_io.specs.Reading.{Reading}
use Rattle.capture_io.specs.Run.{Run, before, ended}
use Rattle.capture_io.specs.declared.fault.CaptureFault.{CaptureFault}
use Rattle.auditing.specs.Auditing.{run_in}

-- each id but this one has as much left to read in a second world as in a first
abbrev pub StaysBut : ℕ → World → World → Type 0
StaysBut id w v = (other : ℕ) → other ≢ id → left_of other v ≡ left_of other w

-- the result of a reader's call in a world: a frame, behind which the rest is left in the desk's world after the call;
-- the end, which stays; or the fault of the run, unless it is one of the desk or of memory
abbrev pub Comes : Result (Option Frame) CaptureFault → Reading → Reading → World → Option World → Type 0
Comes (Ok (Some f)) old new w now = IsSomeAnd now (λ v. (run_in old w ≡ before f (run_in new v)) × StaysBut old.id w v)
Comes (Ok None) old new w now = (run_in old w ≡ ended None) × IsSomeAnd now (λ v. (run_in new v ≡ ended None) × StaysBut old.id w v)
Comes (Err fault) old new w now = is_outside_fault fault ≡ false → run_in old w ≡ ended (Some fault)

-- a fault is that of a run, unless it is one of the desk or of memory
abbrev pub IsFaultOf : Run CaptureFault → CaptureFault → Type 0
IsFaultOf run fault = is_outside_fault fault ≡ false → run.fault ≡ Some fault
