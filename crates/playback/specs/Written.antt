-- Captures that are written, and the frames that are read of them.
use Rattle.std.specs.Prelude.{ℕ, ◌+◌, ◌*◌, ◌^◌, ◌≤◌, ◌<◌, IsTrue, List, [], ◌∷◌, length, Option, Some, unwrap_or}
use Rattle.capture_io.specs.Capture.{in_span}
use Rattle.capture_io.specs.Frame.{Frame}
use Rattle.capture_io.specs.declared.order.Order.TheVariants.{Little}
use Rattle.capture_io.specs.declared.link.Link.TheVariants.{Raw}
use Rattle.capture_io.specs.declared.format.Fraction.TheVariants.{Nanoseconds}
use Rattle.capture_io.specs.declared.format.Format.{Format}
use Rattle.capture_events.specs.Events.{Packet}
use Rattle.playback.specs.Limits.{most_frame_octets}

-- the format of captures that are written: little-endian, nanoseconds, raw IP
abbrev pub out_format : Format
out_format = record { order = Little; fraction = Nanoseconds; link = Raw }

-- packets as the frames of a capture of raw IP, numbered on from a count
abbrev pub frames_from : ℕ → List Packet → List Frame
frames_from count [] = []
frames_from count (packet ∷ packets) =
    record { number = count + 1; moment = packet.moment; link = Raw; octets = packet.octets }
    ∷ frames_from (count + 1) packets

-- the frames of a capture that holds these packets
abbrev pub frames_of : List Packet → List Frame
frames_of packets = frames_from 0 packets

-- a packet that a capture may hold behind a moment: not earlier, within the span, and with a moment and a size that fit
-- a record
pub record MayFollow (previous : Option ℕ) (packet : Packet) : Type 0 where
  pub later : unwrap_or previous 0 ≤ packet.moment
  pub span : IsTrue (in_span previous packet.moment)
  pub moment : packet.moment < 2 ^ 32 * 1000000000
  pub size : length packet.octets ≤ most_frame_octets

-- packets of which each may follow the one before in a capture
abbrev pub AreInOrder : Option ℕ → List Packet → Type 0
AreInOrder previous [] = Unit {0}
AreInOrder previous (packet ∷ packets) =
    MayFollow previous packet × AreInOrder (Some packet.moment) packets
