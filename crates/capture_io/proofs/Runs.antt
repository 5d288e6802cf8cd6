-- The frames of a file, record by record, and what a reader answers of them.
use Rattle.std.proofs.Common.{◌≡◌, ◌≤◌, ◌<◌, ◌+◌, ℕ, zero, suc, List, [], ◌∷◌, drop, length, Option, Some, None, Ok, Err, refl, sym, ap, ◌∙◌, arith}
use Rattle.std.proofs.lemmas.Bool.{leb-true, ltb-true}
use Rattle.std.proofs.lemmas.List.{length-take, length-drop}
use Rattle.octets.specs.Rules.{first_failing}
use Rattle.octets.proofs.RuleLemmas.{all_hold}
use Rattle.capture_io.specs.Limits.{most_records}
use Rattle.capture_io.specs.Answers.{unless}
use Rattle.capture_io.specs.Capture.{header_rules, format_of, begin, record_rules, frame, body, kept, outcome, advanced, fraction, per_second}
use Rattle.capture_io.specs.Frame.{Frame}
use Rattle.capture_io.specs.Frames.{rest, read_within, read_on, opened, capture}
use Rattle.capture_io.specs.Run.{ended, before, goes_on}
use Rattle.capture_io.specs.Reading.{Reading, started, beginning, passed}
use Rattle.capture_io.specs.declared.format.Format.{Format}
use Rattle.capture_io.specs.declared.position.Position.{Position}
use Rattle.capture_io.specs.declared.fault.CaptureFault.{CaptureFault}

-- as many records as there are octets are enough
enough : (n m : ℕ) (format : Format) (at : Position) (left : List ℕ) → length left ≤ n → length left ≤ m → read_within n format at left ≡ read_within m format at left
unfolding read_within
enough zero zero format at left a b = refl
enough zero (suc m) format at [] a b = refl
enough zero (suc m) format at (x ∷ left) a b = absurd (omega arith)
enough (suc n) zero format at [] a b = refl
enough (suc n) zero format at (x ∷ left) a b = absurd (omega arith)
enough (suc n) (suc m) format at [] a b = refl
enough (suc n) (suc m) format at (x ∷ left) a b =
    let l = x ∷ left in
    ap (goes_on (outcome format at l)) (enough n m format (advanced format at l) (rest format l) (omega (arith, length-drop (16 + kept format l) l)) (omega (arith, length-drop (16 + kept format l) l)))

-- what is next, and then the rest
pub read_step : (format : Format) (at : Position) (left : List ℕ) → read_on format at left ≡ goes_on (outcome format at left) (read_on format (advanced format at left) (rest format left))
unfolding read_on read_within
read_step format at [] = refl
read_step format at (x ∷ left) =
    let l = x ∷ left in
    ap (goes_on (outcome format at l)) (enough (length left) (length (rest format l)) format (advanced format at l) (rest format l) (omega (arith, length-drop (16 + kept format l) l)) (omega arith))

-- a frame that is given was judged, and no rule failed
unless_frame : (o : Option CaptureFault) (f g : Frame) → Ok (Some f) ≡ unless o (Some g) → (o ≡ None) × (f ≡ g)
unless_frame None f g e = (refl, cc)
unless_frame (Some fault) f g e = (cc, cc)

-- the frame at the front, where a reader gives one, is as long as its record says
pub frame_given : (format : Format) (at : Position) (left : List ℕ) (f : Frame) → Ok (Some f) ≡ outcome format at left → (f ≡ frame format at left (body format left)) × (length f.octets ≡ kept format left)
frame_given format at [] f e = (cc, cc)
frame_given format at (x ∷ left) f e =
    let l = x ∷ left in
    let is = unless_frame (first_failing (record_rules format at l)) f (frame format at l (body format l)) e in
    let all = all_hold (record_rules format at l) is.0 in
    let there = leb-true (kept format l) (length (body format l)) all.1.1.1.1.0 in
    (is.1, ap (λ (g : Frame). length g.octets) is.1 ∙ omega (arith, there, length-take (kept format l) (drop 16 l)))

-- where a frame is given, there were fewer records than may be
pub frame_room : (format : Format) (at : Position) (left : List ℕ) (f : Frame) → Ok (Some f) ≡ outcome format at left → at.count < most_records
frame_room format at [] f e = cc
frame_room format at (x ∷ left) f e =
    let l = x ∷ left in
    let is = unless_frame (first_failing (record_rules format at l)) f (frame format at l (body format l)) e in
    ltb-true at.count most_records (all_hold (record_rules format at l) is.0).0

-- and its fraction is less than a second
pub fraction_fits : (format : Format) (at : Position) (left : List ℕ) (f : Frame) → Ok (Some f) ≡ outcome format at left → fraction format left < per_second format.fraction
fraction_fits format at [] f e = cc
fraction_fits format at (x ∷ left) f e =
    let l = x ∷ left in
    let is = unless_frame (first_failing (record_rules format at l)) f (frame format at l (body format l)) e in
    ltb-true (fraction format l) (per_second format.fraction) (all_hold (record_rules format at l) is.0).1.1.0

-- a reader that gives a frame stands where the rest is read from
pub passed_frame : (format : Format) (at : Position) (left : List ℕ) (f : Frame) → Ok (Some f) ≡ outcome format at left → passed at f ≡ advanced format at left
passed_frame format at left f e =
    let is = frame_given format at left f e in
    ap (λ (g : Frame). passed at g) is.0 ∙ ap (λ (k : ℕ). record (advanced format at left) { place = at.place + 16 + k }) (ap (λ (g : Frame). length g.octets) (sym is.0) ∙ is.1)

-- a frame, and then the rest
pub read_on-frame : (format : Format) (at : Position) (left : List ℕ) (f : Frame) → Ok (Some f) ≡ outcome format at left
    → read_on format at left ≡ before f (read_on format (passed at f) (drop (16 + length f.octets) left))
read_on-frame format at left f e =
    read_step format at left ∙ ap (λ r. goes_on r (read_on format (advanced format at left) (rest format left))) (sym e)
    ∙ ap (λ (p : Position). before f (read_on format p (rest format left))) (sym (passed_frame format at left f e))
    ∙ ap (λ (k : ℕ). before f (read_on format (passed at f) (drop (16 + k) left))) (sym (frame_given format at left f e).1)

-- the end
pub read_on-end : (format : Format) (at : Position) (left : List ℕ) → Ok None ≡ outcome format at left → read_on format at left ≡ ended None
read_on-end format at left e = read_step format at left ∙ ap (λ r. goes_on r (read_on format (advanced format at left) (rest format left))) (sym e)

-- a fault
pub read_on-fault : (format : Format) (at : Position) (left : List ℕ) (fault : CaptureFault) → Err fault ≡ outcome format at left → read_on format at left ≡ ended (Some fault)
read_on-fault format at left fault e = read_step format at left ∙ ap (λ r. goes_on r (read_on format (advanced format at left) (rest format left))) (sym e)

-- a reader that has started read a header that breaks no rule
unless_start : (id : ℕ) (o : Option CaptureFault) (format : Format) (r : Reading) → Ok r ≡ unless o (beginning id format) → (o ≡ None) × (r ≡ beginning id format)
unless_start id None format r e = (refl, cc)
unless_start id (Some fault) format r e = (cc, cc)

-- a fault at the start is one of the header
unless_refused : (id : ℕ) (o : Option CaptureFault) (format : Format) (fault : CaptureFault) → Err fault ≡ unless o (beginning id format) → o ≡ Some fault
unless_refused id None format fault e = cc
unless_refused id (Some other) format fault e = cc

-- a file whose header breaks no rule
pub capture-started : (id : ℕ) (file : List ℕ) (r : Reading) → Ok r ≡ started id file → capture file ≡ read_on r.format r.position (drop 24 file)
unfolding capture
capture-started id file r e =
    let is = unless_start id (first_failing (header_rules file)) (format_of file) r e in
    ap (λ (o : Option CaptureFault). opened o (read_on (format_of file) begin (drop 24 file))) is.0
    ∙ ap (λ (s : Reading). read_on s.format s.position (drop 24 file)) (sym is.1)

-- a file whose header breaks one
pub capture-refused : (id : ℕ) (file : List ℕ) (fault : CaptureFault) → Err fault ≡ started id file → capture file ≡ ended (Some fault)
unfolding capture
capture-refused id file fault e =
    ap (λ (o : Option CaptureFault). opened o (read_on (format_of file) begin (drop 24 file))) (unless_refused id (first_failing (header_rules file)) (format_of file) fault e)
