-- The answers of a reader, call after call, are the frames of its file, and then its ending.
use Rattle.std.proofs.Common.{◌≡◌, ◌+◌, ℕ, zero, suc, Bool, false, List, [], ◌∷◌, drop, length, Option, Some, None, Result, Ok, Err, refl, sym, ap, ◌∙◌, inl, inr}
use Rattle.std.proofs.lemmas.Bool.{cases_Bool}
use Rattle.octets.specs.Rules.{first_failing}
use Rattle.capture_io.proofs.Runs.{read_on-frame, read_on-end, read_on-fault}
use Rattle.capture_io.specs.Answers.{is_outside_fault, unless}
use Rattle.capture_io.specs.Calls.{answered, after_answer, left_after, later_answer, frame_or_end}
use Rattle.capture_io.specs.Capture.{record_rules, frame, body, outcome}
use Rattle.capture_io.specs.Frame.{Frame}
use Rattle.capture_io.specs.Frames.{read_on}
use Rattle.capture_io.specs.Reading.{Reading, after_frame, after_fault, passed}
use Rattle.capture_io.specs.declared.format.Format.{Format}
use Rattle.capture_io.specs.declared.position.Position.{Position}
use Rattle.capture_io.specs.declared.fault.CaptureFault.{CaptureFault}
use Rattle.capture_io.specs.declared.fault.CaptureFault.TheVariants.{Memory}

-- rules that tell of the file
abbrev OfFile : List (Bool × CaptureFault) → Type 0
OfFile [] = Unit
OfFile (rule ∷ rules) = (is_outside_fault rule.1 ≡ false) × OfFile rules

failing_of_file : (rules : List (Bool × CaptureFault)) (fault : CaptureFault) → OfFile rules → first_failing rules ≡ Some fault → is_outside_fault fault ≡ false
failing_of_file [] fault all e = cc
failing_of_file (rule ∷ rules) fault all e =
    elim (cases_Bool rule.0)
    [ inl holds ↦ failing_of_file rules fault all.1 (rw holds at e) | inr fails ↦ (let is : Some rule.1 ≡ Some fault = rw fails at e in (let same : rule.1 ≡ fault = cc in ap is_outside_fault (sym same) ∙ all.0)) ]

unless_fault : {T : Type 0} (o : Option CaptureFault) (value : T) (fault : CaptureFault) → Err fault ≡ unless o value → o ≡ Some fault
unless_fault None value fault e = cc
unless_fault (Some other) value fault e = cc

-- what is next in a file is no fault of the desk or of memory
outcome_of_file : (format : Format) (at : Position) (left : List ℕ) (fault : CaptureFault) → Err fault ≡ outcome format at left → is_outside_fault fault ≡ false
outcome_of_file format at [] fault e = cc
outcome_of_file format at (x ∷ left) fault e =
    failing_of_file (record_rules format at (x ∷ left)) fault (refl, (refl, (refl, (refl, (refl, (refl, tt))))))
    (unless_fault (first_failing (record_rules format at (x ∷ left))) (Some (frame format at (x ∷ left) (body format (x ∷ left)))) fault e)

-- such a fault is kept
kept : (r : Reading) (fault : CaptureFault) → is_outside_fault fault ≡ false → (after_fault r fault).fault ≡ Some fault
kept r Memory e = cc
kept r _ e = refl

-- a fault that is kept stays
stays : (r : Reading) (fault : CaptureFault) → r.fault ≡ Some fault → (after_fault r fault).fault ≡ Some fault
stays r Memory is = is
stays r _ is = refl

-- the answer of a reader that kept no fault
answered-none : (r : Reading) (left : List ℕ) (o : Result (Option Frame) CaptureFault) → r.fault ≡ None → o ≡ outcome r.format r.position left → answered r left ≡ o
answered-none r left o none is = rw none (sym is)

-- one call, and then the others
later : (k : ℕ) (r : Reading) (left : List ℕ) (o : Result (Option Frame) CaptureFault) → answered r left ≡ o → later_answer (suc k) r left ≡ later_answer k (after_answer o r) (left_after o left)
later k r left o is = ap (λ (a : Result (Option Frame) CaptureFault). later_answer k (after_answer a r) (left_after a left)) is

-- after a fault
faulted : (k : ℕ) (r : Reading) (left : List ℕ) (fault : CaptureFault) → r.fault ≡ Some fault → later_answer k r left ≡ Err fault
faulted zero r left fault is = rw is refl
faulted (suc k) r left fault is = later k r left (Err fault) (rw is refl) ∙ faulted k (after_fault r fault) left fault (stays r fault is)

-- at the end
at_end : (k : ℕ) (r : Reading) (left : List ℕ) → r.fault ≡ None → Ok None ≡ outcome r.format r.position left → later_answer k r left ≡ Ok None
at_end zero r left none is = answered-none r left (Ok None) none is
at_end (suc k) r left none is = later k r left (Ok None) (answered-none r left (Ok None) none is) ∙ at_end k r left none is

-- a frame, and then what is answered after it
after_one : (k : ℕ) (r : Reading) (left : List ℕ) (f : Frame) → r.fault ≡ None → Ok (Some f) ≡ outcome r.format r.position left
    → later_answer k (after_frame r f) (drop (16 + length f.octets) left) ≡ frame_or_end k (read_on r.format (passed r.position f) (drop (16 + length f.octets) left))
    → later_answer (suc k) r left ≡ frame_or_end (suc k) (read_on r.format r.position left)
after_one k r left f none is rest =
    later k r left (Ok (Some f)) (answered-none r left (Ok (Some f)) none is) ∙ rest ∙ ap (frame_or_end (suc k)) (sym (read_on-frame r.format r.position left f is))

-- the answer at once
first : (r : Reading) (left : List ℕ) (o : Result (Option Frame) CaptureFault) → r.fault ≡ None → o ≡ outcome r.format r.position left → o ≡ frame_or_end 0 (read_on r.format r.position left)
first r left (Ok None) none is = ap (frame_or_end 0) (sym (read_on-end r.format r.position left is))
first r left (Ok (Some f)) none is = ap (frame_or_end 0) (sym (read_on-frame r.format r.position left f is))
first r left (Err fault) none is = ap (frame_or_end 0) (sym (read_on-fault r.format r.position left fault is))

-- the answer after one more, if that is known of a reader behind a frame
next : (k : ℕ) (r : Reading) (left : List ℕ) (o : Result (Option Frame) CaptureFault) → r.fault ≡ None → o ≡ outcome r.format r.position left
    → ((s : Reading) (more : List ℕ) → s.fault ≡ None → later_answer k s more ≡ frame_or_end k (read_on s.format s.position more))
    → later_answer (suc k) r left ≡ frame_or_end (suc k) (read_on r.format r.position left)
next k r left (Ok None) none is known = at_end (suc k) r left none is ∙ ap (frame_or_end (suc k)) (sym (read_on-end r.format r.position left is))
next k r left (Ok (Some f)) none is known = after_one k r left f none is (known (after_frame r f) (drop (16 + length f.octets) left) none)
next k r left (Err fault) none is known =
    later k r left (Err fault) (answered-none r left (Err fault) none is) ∙ faulted k (after_fault r fault) left fault (kept r fault (outcome_of_file r.format r.position left fault is))
    ∙ ap (frame_or_end (suc k)) (sym (read_on-fault r.format r.position left fault is))

-- the answer after k others
pub later_answer-is : (k : ℕ) (r : Reading) (left : List ℕ) → r.fault ≡ None → later_answer k r left ≡ frame_or_end k (read_on r.format r.position left)
later_answer-is zero r left none =
    answered-none r left (outcome r.format r.position left) none refl ∙ first r left (outcome r.format r.position left) none refl
later_answer-is (suc k) r left none = next k r left (outcome r.format r.position left) none refl (later_answer-is k)
