-- The frames of a file, whether or not interfaces are VLANs: their moments don't fall, and there are no more than may be.
use Rattle.std.proofs.Common.{◌≡◌, ◌≤◌, ◌<◌, ◌+◌, ◌&&◌, nat_lt, ℕ, zero, suc, Bool, true, false, List, [], ◌∷◌, length, Option, Some, None, unwrap_or, if◌then◌else◌, refl, subst, sym, arith}
use Rattle.std.specs.Option.{option_map}
use Rattle.std.specs.List.{All}
use Rattle.std.proofs.lemmas.List.Elements.{All-cons, All-nil}
use Rattle.capture_io.specs.Frame.{Frame}
use Rattle.capture_io.specs.Limits.{most_records}
use Rattle.capture_io.specs.Run.{AreLater, Run}
use Rattle.capture_ng.proofs.OrderLemmas.{IsSeen, after-other, after-packet, block_seen}
use Rattle.capture_ng.specs.Blocks.{head_of}
use Rattle.capture_ng.specs.Faults.{block_fault}
use Rattle.capture_ng.specs.Frames.{advanced, blocks_within, ng_frames, of_block, read_on, rest}
use Rattle.capture_ng.specs.Limits.{end_of_moments}
use Rattle.capture_ng.specs.Packets.{Packet, frame_of, is_untagged, packet_in, tagged}
use Rattle.capture_ng.specs.Position.{Position, begin}
use Rattle.capture_ng.specs.declared.fault.NgFault.{NgFault}

-- each moment is early enough
abbrev pub AreEarly : List Frame → Type 0
AreEarly frames = All (λ (frame : Frame). frame.moment < end_of_moments) frames

-- frames that may come behind a position
pub record AreNext (at : Position) (frames : List Frame) : Type 0 where
  pub later : AreLater (unwrap_or at.greatest 0) frames
  pub few : at.count + length frames ≤ most_records
  pub early : AreEarly frames

-- a tag changes no moment
moment_or : (test : Bool) (f : Frame) (octets : List ℕ) → (if test then record f { octets = octets } else f).moment ≡ f.moment
moment_or true f octets = refl
moment_or false f octets = refl

frame_of-moment : (vlans : Bool) (p : Packet) → (frame_of vlans p).moment ≡ p.frame.moment
frame_of-moment vlans p = moment_or (vlans && (nat_lt 0 p.interface && is_untagged p.frame.link p.frame.octets)) p.frame (tagged p.interface p.frame.octets)

-- no frames may always come
next-none : (at : Position) → at.count ≤ most_records → AreNext at []
next-none at room = record { later = tt; few = omega (arith, room); early = All-nil (λ (frame : Frame). frame.moment < end_of_moments) }

-- a block, and the frames behind it
next-step : (vlans : Bool) (at next : Position) (fault : Option NgFault) (o : Option Packet) (run : Run NgFault)
    → (None ≡ fault → (p : Packet) → Some p ≡ o → ((at.count < most_records) × IsSeen at p) × ((next.count ≡ p.frame.number) × (next.greatest ≡ Some p.frame.moment)))
    → (None ≡ fault → None ≡ o → (next.count ≡ at.count) × (next.greatest ≡ at.greatest))
    → (None ≡ fault → unwrap_or next.greatest 0 < end_of_moments → next.count ≤ most_records → AreNext next run.frames)
    → unwrap_or at.greatest 0 < end_of_moments → at.count ≤ most_records → AreNext at (of_block fault (option_map (frame_of vlans) o) run).frames
next-step vlans at next (Some fault) o run seen other more early room = next-none at room
next-step vlans at next None None run seen other more early room =
    let stays = other refl refl in
    let behind = more refl (subst (λ (m : Option ℕ). unwrap_or m 0 < end_of_moments) (sym stays.1) early) (omega (arith, stays.0, room)) in
    let few = behind.few in
    record { later = subst (λ (m : Option ℕ). AreLater (unwrap_or m 0) run.frames) stays.1 behind.later; few = omega (arith, few, stays.0); early = behind.early }
next-step vlans at next None (Some p) run seen other more early room =
    let is = seen refl p refl in
    let f = frame_of vlans p in
    let moment = frame_of-moment vlans p in
    let before_end = is.0.1.moment in
    let less = is.0.0 in
    let number = is.0.1.number in
    let greatest = is.1.1 in
    let behind = more refl (subst (λ (m : Option ℕ). unwrap_or m 0 < end_of_moments) (sym greatest) before_end) (omega (arith, is.1.0, number, less)) in
    let few = behind.few in
    let so_far = is.0.1.later in
    record {
      later = (omega (arith, so_far, moment), subst (λ (m : ℕ). AreLater m run.frames) (sym moment) (subst (λ (m : Option ℕ). AreLater (unwrap_or m 0) run.frames) greatest behind.later));
      few = omega (arith, few, is.1.0, number);
      early = All-cons (λ (frame : Frame). frame.moment < end_of_moments) f run.frames (omega (arith, moment, before_end)) behind.early;
    }

next_within : (n : ℕ) (vlans : Bool) (at : Position) (left : List ℕ) → unwrap_or at.greatest 0 < end_of_moments → at.count ≤ most_records → AreNext at (blocks_within n vlans at left).frames
unfolding blocks_within
next_within zero vlans at left early room = next-none at room
next_within (suc n) vlans at [] early room = next-none at room
next_within (suc n) vlans at (x ∷ left) early room =
    let l = x ∷ left in
    let head = head_of at l in
    next-step vlans at (advanced at l) (block_fault at l) (packet_in at head l) (blocks_within n vlans (advanced at l) (rest at l))
    (λ none p is. (block_seen at l p early none is, after-packet head.kind at head l p is))
    (λ none is. after-other head.kind at head l is)
    (λ none before_end room. next_within n vlans (advanced at l) (rest at l) before_end room)
    early room

-- those of a file
pub frames-next : (file : List ℕ) (vlans : Bool) → AreNext begin (ng_frames file vlans)
unfolding read_on
frames-next file vlans = next_within (length file) vlans begin file (omega arith) (omega arith)
