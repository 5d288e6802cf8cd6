-- The answers of a reader, call after call, against the frames of its file.
use Rattle.std.specs.Prelude.{ℕ, zero, suc, List, drop, Option, Some, None, Result, Ok, Err, slice_get}
use Rattle.capture_io.specs.Capture.{outcome, taken}
use Rattle.capture_io.specs.Frame.{Frame}
use Rattle.capture_io.specs.Run.{Run}
use Rattle.capture_io.specs.Reading.{Reading, after_frame, after_fault}
use Rattle.capture_io.specs.declared.fault.CaptureFault.{CaptureFault}

-- the answer of a reader with these octets left: the fault that it keeps, or else the next frame, the end or a fault
abbrev pub answered : Reading → List ℕ → Result (Option Frame) CaptureFault
answered r left = elim r.fault [ Some fault ↦ Err fault | None ↦ outcome r.format r.position left ]

-- a reader after an answer
abbrev pub after_answer : Result (Option Frame) CaptureFault → Reading → Reading
after_answer (Ok None) r = r
after_answer (Ok (Some f)) r = after_frame r f
after_answer (Err fault) r = after_fault r fault

-- the octets left after an answer; after a fault they stay as they are, because no more are read
abbrev pub left_after : Result (Option Frame) CaptureFault → List ℕ → List ℕ
left_after (Ok o) left = drop (taken o) left
left_after (Err fault) left = left

-- the answer of a reader after k others
abbrev pub later_answer : ℕ → Reading → List ℕ → Result (Option Frame) CaptureFault
later_answer zero r left = answered r left
later_answer (suc k) r left =
    later_answer k (after_answer (answered r left) r) (left_after (answered r left) left)

-- the answer at the end of a run: no frame, or the run's fault
abbrev pub ending : Option CaptureFault → Result (Option Frame) CaptureFault
ending None = Ok None
ending (Some fault) = Err fault

-- frame k of a run, counted from 0, or the answer at the run's end where there are no more
abbrev pub frame_or_end : ℕ → Run CaptureFault → Result (Option Frame) CaptureFault
frame_or_end k run =
    elim (slice_get run.frames k) [ Some f ↦ Ok (Some f) | None ↦ ending run.fault ]
