-- Runs: the frames of a capture in any format, and the fault that ends them, of that format's type of faults.
use Rattle.std.specs.Prelude.{ℕ, ◌≤◌, List, [], ◌∷◌, Option, Some, None, Result, Ok, Err}
use Rattle.capture_io.specs.Frame.{Frame}

-- a run: the frames of a capture before its end or first fault, and that fault, of type F
pub record Run (F : Type 0) : Type 0 where
  pub frames : List Frame
  pub fault : Option F

-- a run without frames, which ends with a fault or without one
abbrev pub ended : {F : Type 0} → Option F → Run F
ended fault = record { frames = []; fault = fault }

-- a run with a frame before it
abbrev pub before : {F : Type 0} → Frame → Run F → Run F
before f run = record { frames = f ∷ run.frames; fault = run.fault }

-- the run that begins with an answer: its frame before the run behind it, or the end or a fault alone
abbrev pub goes_on : {F : Type 0} → Result (Option Frame) F → Run F → Run F
goes_on (Ok None) run = ended None
goes_on (Ok (Some f)) run = before f run
goes_on (Err fault) run = ended (Some fault)

-- the moments of frames don't fall, and none is below that moment
abbrev pub AreLater : ℕ → List Frame → Type 0
AreLater m [] = Unit {0}
AreLater m (frame ∷ frames) = (m ≤ frame.moment) × AreLater frame.moment frames
