-- Packet blocks: their interface, moment and octets, and the frames that they become.
use Rattle.std.specs.Prelude.{ℕ, ◌+◌, ◌-◌, ◌*◌, ◌/◌, ◌^◌, ◌==◌, ◌&&◌, not, nat_le, nat_lt, min, max, Bool, false, List, ◌++◌, length, take, drop, slice_get, Option, Some, None, option_map, option_and_then, unwrap_or, if◌then◌else◌}
use Rattle.octets.specs.Numbers.{big_octets}
use Rattle.capture_io.specs.Frame.{Frame}
use Rattle.capture_io.specs.Link.{is_tagged}
use Rattle.capture_io.specs.declared.link.Link.{Link}
use Rattle.capture_io.specs.declared.link.Link.TheVariants.{Ethernet, Raw}
use Rattle.capture_ng.specs.Limits.{end_of_moments}
use Rattle.capture_io.specs.Capture.{number}
use Rattle.capture_ng.specs.Position.{Position}
use Rattle.capture_ng.specs.declared.head.Kind.{Kind}
use Rattle.capture_ng.specs.declared.head.Kind.TheVariants.{SimplePacket, EnhancedPacket}
use Rattle.capture_ng.specs.declared.head.Head.{Head}
use Rattle.capture_ng.specs.declared.interface.Added.{Added}
use Rattle.capture_ng.specs.declared.interface.Added.TheVariants.{Later, Earlier}
use Rattle.capture_ng.specs.declared.interface.Clock.{Clock}
use Rattle.capture_ng.specs.declared.interface.Interface.{Interface}

-- the Interface ID of a packet block; of a simple packet 0, the section's first interface
abbrev pub interface_number : Head → List ℕ → ℕ
interface_number head left =
    elim head.kind [ EnhancedPacket ↦ number head.order 4 left 8 | _ ↦ 0 ]

-- the interface of a packet block, or None where the section doesn't have it
abbrev pub interface_of : Position → Head → List ℕ → Option Interface
interface_of at head left = slice_get at.interfaces (interface_number head left)

-- the offset of Packet Data in a packet block, in octets
abbrev pub packet_place : Head → ℕ
packet_place head = elim head.kind [ EnhancedPacket ↦ 28 | _ ↦ 12 ]

-- how many octets of a packet block lie between the start of Packet Data and its second total length
abbrev pub packet_room : Head → ℕ
packet_room head = head.length - (packet_place head + 4)

-- the length of a packet, or SnapLen where that is less and not 0
abbrev pub snapped : ℕ → ℕ → ℕ
snapped snap size = if snap == 0 then size else min snap size

-- how many octets of its packet a block keeps: the Captured Packet Length; of a simple packet the Original Packet
-- Length, limited by SnapLen
abbrev pub kept : Head → Interface → List ℕ → ℕ
kept head interface left = elim head.kind [
  | EnhancedPacket ↦ number head.order 4 left 20
  | _ ↦ snapped interface.snap (number head.order 4 left 8)
]

-- a Timestamp in a clock's units as nanoseconds, rounded down
abbrev pub nanoseconds : Clock → ℕ → ℕ
nanoseconds clock time = time * 1000000000 / clock.units

-- nanoseconds moved by an if_tsoffset of whole seconds; None where that is before 1970
abbrev pub moved : Added → ℕ → Option ℕ
moved (Later seconds) m = Some (m + seconds * 1000000000)
moved (Earlier seconds) m =
    if nat_le (seconds * 1000000000) m then Some (m - seconds * 1000000000) else None

-- the Timestamp of an enhanced packet block, in its interface's units
abbrev pub time : Head → List ℕ → ℕ
time head left = number head.order 4 left 12 * 2 ^ 32 + number head.order 4 left 16

-- the moment of a packet block, or None before 1970; a simple packet has the greatest moment so far, 0 without one
abbrev pub moment : Position → Head → Interface → List ℕ → Option ℕ
moment at head interface left = elim head.kind [
  | EnhancedPacket ↦ moved interface.clock.added (nanoseconds interface.clock (time head left))
  | _ ↦ Some (unwrap_or at.greatest 0)
]

-- whether a frame may have a moment: not before 1970, and before 2^32 seconds
abbrev pub is_moment : Option ℕ → Bool
is_moment None = false
is_moment (Some m) = nat_lt m end_of_moments

-- the moment, or None where it is of 2^32 seconds or more
abbrev pub early : ℕ → Option ℕ
early m = if nat_lt m end_of_moments then Some m else None

-- a packet that a block keeps: the number of its interface, and its frame
pub record Packet : Type 0 where
  pub interface : ℕ
  pub frame : Frame

-- the frame of a packet of that link type and moment; an earlier frame's moment takes the place of its own where it is
-- greater
abbrev pub frame_at : Position → Head → Interface → List ℕ → Link → ℕ → Frame
frame_at at head interface left link m = record {
  number = at.count + 1;
  moment = max (unwrap_or at.greatest 0) m;
  link = link;
  octets = take (kept head interface left) (drop (packet_place head) left);
}

-- the packet that a packet block of an interface keeps, or None where its LinkType isn't read or it has no moment
abbrev pub packet_of : Position → Head → List ℕ → Interface → Option Packet
packet_of at head left interface =
    option_and_then (λ link.
    option_map (λ m.
    record { interface = interface_number head left; frame = frame_at at head interface left link m })
    (moment at head interface left)) interface.link

-- the packet that a block keeps, by its kind, or None where it keeps none
abbrev pub packet_in_kind : Kind → Position → Head → List ℕ → Option Packet
packet_in_kind EnhancedPacket at head left =
    option_and_then (packet_of at head left) (interface_of at head left)
packet_in_kind SimplePacket at head left =
    option_and_then (packet_of at head left) (interface_of at head left)
packet_in_kind _ at head left = None

-- the packet that a block keeps, or None where it keeps none
abbrev pub packet_in : Position → Head → List ℕ → Option Packet
packet_in at head left = packet_in_kind head.kind at head left

-- whether octets begin with an Ethernet header without a VLAN tag
abbrev pub is_untagged : Link → List ℕ → Bool
is_untagged Ethernet octets = nat_le 14 (length octets) && not (is_tagged octets)
is_untagged Raw octets = false

-- an Ethernet frame with a VLAN tag of that number put in before its type
abbrev pub tagged : ℕ → List ℕ → List ℕ
tagged vlan octets =
    take 12 octets ++ ((big_octets 2 0x8100 ++ big_octets 2 vlan) ++ drop 12 octets)

-- the frame of a packet; where interfaces are VLANs, an untagged Ethernet frame of any interface but the first gets the
-- interface's number as its VLAN tag
abbrev pub frame_of : Bool → Packet → Frame
frame_of vlans packet =
    if vlans && (nat_lt 0 packet.interface && is_untagged packet.frame.link packet.frame.octets)
    then record packet.frame { octets = tagged packet.interface packet.frame.octets }
    else packet.frame
