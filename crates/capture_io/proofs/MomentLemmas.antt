-- The moments of a file of octets.
use Rattle.std.proofs.Common.{◌≡◌, ◌<◌, ◌+◌, ◌*◌, ◌^◌, ℕ, zero, suc, List, drop, length, slice_index, Option, Some, None, Result, Ok, Err, unwrap_or, refl, ap, inl, inr, arith}
use Rattle.std.specs.List.{All}
use Rattle.std.proofs.lemmas.Bool.{cases_lt}
use Rattle.std.proofs.lemmas.List.{get_or_past}
use Rattle.std.proofs.lemmas.List.Elements.{All-nil, All-cons, All-drop}
use Rattle.capture_io.proofs.Runs.{fraction_fits, frame_given}
use Rattle.capture_io.specs.Capture.{advanced, begin, fraction, kept, nanoseconds, number, outcome, per_second, running, seconds}
use Rattle.capture_io.specs.Frame.{Frame}
use Rattle.capture_io.specs.Frames.{read_on, read_within, rest}
use Rattle.capture_io.specs.Run.{Run, goes_on}
use Rattle.capture_io.specs.declared.fault.CaptureFault.{CaptureFault}
use Rattle.capture_io.specs.declared.format.Format.{Format}
use Rattle.capture_io.specs.declared.format.Fraction.{Fraction}
use Rattle.capture_io.specs.declared.format.Fraction.TheVariants.{Microseconds, Nanoseconds}
use Rattle.capture_io.specs.declared.order.Order.{Order}
use Rattle.capture_io.specs.declared.order.Order.TheVariants.{Little, Big}
use Rattle.capture_io.specs.declared.position.Position.{Position}

-- each number is below 256
abbrev pub AreOctets : List ℕ → Type 0
AreOctets octets = All (λ octet. octet < 256) octets

-- each moment is below 2^32 seconds
abbrev pub AreEarly : List Frame → Type 0
AreEarly frames = All (λ (frame : Frame). frame.moment < 2 ^ 32 * 1000000000) frames

-- the octet at a place behind another, 0 past the end
behind : (octets : List ℕ) (at k : ℕ) → AreOctets octets → slice_index (drop at octets) k < 256
behind octets at k are = small (drop at octets) k (All-drop (λ octet. octet < 256) at octets are)
  where
    small : (octets : List ℕ) (k : ℕ) → AreOctets octets → slice_index octets k < 256
    small octets k are =
        elim (cases_lt k (length octets))
        [ inl within ↦ are k 0 within | inr past ↦ (let none = get_or_past octets k 0 (omega (arith, past)) in omega (arith, none)) ]

-- a number of four octets
four : (order : Order) (octets : List ℕ) (at : ℕ) → AreOctets octets → number order 4 octets at < 2 ^ 32
four Little octets at are = omega (arith, behind octets at 0 are, behind octets at 1 are, behind octets at 2 are, behind octets at 3 are)
four Big octets at are = omega (arith, behind octets at 0 are, behind octets at 1 are, behind octets at 2 are, behind octets at 3 are)

-- seconds and a fraction of one
whole : (unit : Fraction) (s part : ℕ) → s < 2 ^ 32 → part < per_second unit → s * 1000000000 + part * nanoseconds unit < 2 ^ 32 * 1000000000
whole Microseconds s part early less = omega (arith, early, less)
whole Nanoseconds s part early less = omega (arith, early, less)

-- what is next, and the frames behind it
early_on : (format : Format) (at : Position) (left : List ℕ) (answer : Result (Option Frame) CaptureFault) (run : Run CaptureFault) → AreOctets left → answer ≡ outcome format at left
    → unwrap_or at.greatest 0 < 2 ^ 32 * 1000000000 → (running format at left < 2 ^ 32 * 1000000000 → AreEarly run.frames) → AreEarly (goes_on answer run).frames
early_on format at left (Ok None) run are is early rest = All-nil (λ (frame : Frame). frame.moment < 2 ^ 32 * 1000000000)
early_on format at left (Ok (Some f)) run are is early rest =
    let moment : f.moment ≡ running format at left = ap (λ (g : Frame). g.moment) (frame_given format at left f is).0 in
    let now = whole format.fraction (seconds format left) (fraction format left) (four format.order left 0 are) (fraction_fits format at left f is) in
    let next : running format at left < 2 ^ 32 * 1000000000 = omega (arith, early, now) in
    All-cons (λ (frame : Frame). frame.moment < 2 ^ 32 * 1000000000) f run.frames (omega (arith, moment, next)) (rest next)
early_on format at left (Err fault) run are is early rest = All-nil (λ (frame : Frame). frame.moment < 2 ^ 32 * 1000000000)

early_within : (n : ℕ) (format : Format) (at : Position) (left : List ℕ) → AreOctets left → unwrap_or at.greatest 0 < 2 ^ 32 * 1000000000 → AreEarly (read_within n format at left).frames
unfolding read_within
early_within zero format at left are early = All-nil (λ (frame : Frame). frame.moment < 2 ^ 32 * 1000000000)
early_within (suc n) format at left are early =
    early_on format at left (outcome format at left) (read_within n format (advanced format at left) (rest format left)) are refl early
    (λ next. early_within n format (advanced format at left) (rest format left) (All-drop (λ octet. octet < 256) (16 + kept format left) left are) next)

-- all are below 2^32 seconds
pub frames-early : (format : Format) (left : List ℕ) → AreOctets left → AreEarly (read_on format begin left).frames
unfolding read_on
frames-early format left are = early_within (length left) format begin left are (omega arith)
