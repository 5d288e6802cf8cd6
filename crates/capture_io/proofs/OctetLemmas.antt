-- The frames of a file of octets are of octets.
use Rattle.std.proofs.Common.{◌≡◌, ◌<◌, ◌+◌, ℕ, zero, suc, List, drop, length, Option, Some, None, Result, Ok, Err, refl, ap, sym, subst}
use Rattle.std.specs.List.{All}
use Rattle.std.proofs.lemmas.List.Elements.{All-nil, All-cons, All-drop, All-take}
use Rattle.capture_io.proofs.MomentLemmas.{AreOctets}
use Rattle.capture_io.proofs.Runs.{frame_given}
use Rattle.capture_io.specs.Capture.{advanced, begin, kept, outcome}
use Rattle.capture_io.specs.Frame.{Frame}
use Rattle.capture_io.specs.Frames.{read_on, read_within, rest}
use Rattle.capture_io.specs.Run.{Run, goes_on}
use Rattle.capture_io.specs.declared.fault.CaptureFault.{CaptureFault}
use Rattle.capture_io.specs.declared.format.Format.{Format}
use Rattle.capture_io.specs.declared.position.Position.{Position}

-- each frame is of octets
abbrev pub AreOfOctets : List Frame → Type 0
AreOfOctets frames = All (λ (frame : Frame). AreOctets frame.octets) frames

-- what is next, and the frames behind it
octets_on : (format : Format) (at : Position) (left : List ℕ) (answer : Result (Option Frame) CaptureFault) (run : Run CaptureFault) → AreOctets left → answer ≡ outcome format at left
    → AreOfOctets run.frames → AreOfOctets (goes_on answer run).frames
octets_on format at left (Ok None) run are is rest = All-nil (λ (frame : Frame). AreOctets frame.octets)
octets_on format at left (Ok (Some f)) run are is rest =
    let body = ap (λ (g : Frame). g.octets) (frame_given format at left f is).0 in
    let kept_are = All-take (λ octet. octet < 256) (kept format left) (drop 16 left) (All-drop (λ octet. octet < 256) 16 left are) in
    All-cons (λ (frame : Frame). AreOctets frame.octets) f run.frames (subst AreOctets (sym body) kept_are) rest
octets_on format at left (Err fault) run are is rest = All-nil (λ (frame : Frame). AreOctets frame.octets)

octets_within : (n : ℕ) (format : Format) (at : Position) (left : List ℕ) → AreOctets left → AreOfOctets (read_within n format at left).frames
unfolding read_within
octets_within zero format at left are = All-nil (λ (frame : Frame). AreOctets frame.octets)
octets_within (suc n) format at left are =
    octets_on format at left (outcome format at left) (read_within n format (advanced format at left) (rest format left)) are refl
    (octets_within n format (advanced format at left) (rest format left) (All-drop (λ octet. octet < 256) (16 + kept format left) left are))

-- all are of octets
pub frames-octets : (format : Format) (left : List ℕ) → AreOctets left → AreOfOctets (read_on format begin left).frames
unfolding read_on
frames-octets format left are = octets_within (length left) format begin left are
