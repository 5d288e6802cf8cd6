use Rattle.std.proofs.Common.{◌≡◌, ◌∙◌, ℕ, List, drop, Some, Result, Ok, Err, refl, sym, ap}
use Rattle.std.specs.Result.{IfOk, IfErr}
use Rattle.capture_io.proofs.CallLemmas.{later_answer-is}
use Rattle.capture_io.proofs.Records.{unless_value}
use Rattle.octets.specs.Rules.{first_failing}
use Rattle.capture_io.specs.Capture.{header_rules, format_of}
use Rattle.capture_io.proofs.Runs.{capture-started, capture-refused}
use Rattle.capture_io.specs.Calls.{later_answer, frame_or_end}
use Rattle.capture_io.specs.Frames.{capture}
use Rattle.capture_io.specs.Run.{ended}
use Rattle.capture_io.specs.Reading.{Reading, beginning, started}
use Rattle.capture_io.specs.declared.fault.CaptureFault.{CaptureFault}
use Rattle.capture_io.proofs.laws.frames_come_in_order.Goals as goal

frames : (id k : ℕ) (file : List ℕ) (answer : Result Reading CaptureFault) → answer ≡ started id file → IfOk answer (λ r. later_answer k r (drop 24 file) ≡ frame_or_end k (capture file))
frames id k file (Ok r) is = later_answer-is k r (drop 24 file) (ap (λ (s : Reading). s.fault) (unless_value (first_failing (header_rules file)) r (beginning id (format_of file)) is)) ∙ ap (frame_or_end k) (sym (capture-started id file r is))
frames id k file (Err fault) is = tt

pub returns-clause-frames : goal.returns-clause-frames
returns-clause-frames c id k file = frames id k file (started id file) refl

refused : (id : ℕ) (file : List ℕ) (answer : Result Reading CaptureFault) → answer ≡ started id file → IfErr answer (λ fault. capture file ≡ ended (Some fault))
refused id file (Ok r) is = tt
refused id file (Err fault) is = capture-refused id file fault is

pub returns-clause-refused : goal.returns-clause-refused
returns-clause-refused c id file = refused id file (started id file) refl
