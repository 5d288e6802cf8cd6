-- The frames of a run: their moments don't fall, and there are at most 1,000,000,000.
use Rattle.std.proofs.Common.{◌≡◌, ◌≤◌, ◌+◌, ℕ, zero, suc, List, length, Option, Some, None, Result, Ok, Err, unwrap_or, refl, sym, ap, subst, arith}
use Rattle.capture_io.proofs.Runs.{frame_given, frame_room}
use Rattle.capture_io.specs.Limits.{most_records}
use Rattle.capture_io.specs.Capture.{advanced, outcome, running, begin}
use Rattle.capture_io.specs.Frame.{Frame}
use Rattle.capture_io.specs.Frames.{read_on, read_within, rest}
use Rattle.capture_io.specs.Run.{AreLater, Run, goes_on}
use Rattle.capture_io.specs.declared.fault.CaptureFault.{CaptureFault}
use Rattle.capture_io.specs.declared.format.Format.{Format}
use Rattle.capture_io.specs.declared.position.Position.{Position}

-- what is next, and the frames behind it
later_on : (format : Format) (at : Position) (left : List ℕ) (answer : Result (Option Frame) CaptureFault) (run : Run CaptureFault) → answer ≡ outcome format at left
    → AreLater (running format at left) run.frames → AreLater (unwrap_or at.greatest 0) (goes_on answer run).frames
later_on format at left (Ok None) run is later = tt
later_on format at left (Ok (Some f)) run is later =
    let moment : f.moment ≡ running format at left = ap (λ (g : Frame). g.moment) (frame_given format at left f is).0 in
    (omega (arith, moment), subst (λ m. AreLater m run.frames) (sym moment) later)
later_on format at left (Err fault) run is later = tt

later_within : (n : ℕ) (format : Format) (at : Position) (left : List ℕ) → AreLater (unwrap_or at.greatest 0) (read_within n format at left).frames
unfolding read_within
later_within zero format at left = tt
later_within (suc n) format at left =
    later_on format at left (outcome format at left) (read_within n format (advanced format at left) (rest format left)) refl
    (later_within n format (advanced format at left) (rest format left))

-- the moments of a file's frames don't fall
pub frames-later : (format : Format) (left : List ℕ) → AreLater 0 (read_on format begin left).frames
unfolding read_on
frames-later format left = later_within (length left) format begin left

few_on : (format : Format) (at : Position) (left : List ℕ) (answer : Result (Option Frame) CaptureFault) (run : Run CaptureFault) → answer ≡ outcome format at left
    → at.count ≤ most_records → (at.count + 1 ≤ most_records → at.count + 1 + length run.frames ≤ most_records) → at.count + length (goes_on answer run).frames ≤ most_records
few_on format at left (Ok None) run is room few = omega (arith, room)
few_on format at left (Ok (Some f)) run is room few =
    let less = frame_room format at left f is in
    let all = few (omega (arith, less)) in
    omega (arith, all)
few_on format at left (Err fault) run is room few = omega (arith, room)

few_within : (n : ℕ) (format : Format) (at : Position) (left : List ℕ) → at.count ≤ most_records → at.count + length (read_within n format at left).frames ≤ most_records
unfolding read_within
few_within zero format at left room = omega (arith, room)
few_within (suc n) format at left room =
    few_on format at left (outcome format at left) (read_within n format (advanced format at left) (rest format left)) refl room
    (λ room. few_within n format (advanced format at left) (rest format left) room)

-- they are at most 1,000,000,000
pub frames-few : (format : Format) (left : List ℕ) → length (read_on format begin left).frames ≤ most_records
unfolding read_on
frames-few format left = let few = few_within (length left) format begin left (omega arith) in omega (arith, few)
