-- The rules of a block, in the order in which they are judged, each with its fault.
use Rattle.std.specs.Prelude.{ℕ, ◌+◌, ◌-◌, ◌==◌, ◌&&◌, ◌||◌, not, nat_le, nat_lt, Bool, true, false, List, [], ◌∷◌, ◌++◌, length, Option, Some, None, is_some, unwrap_or}
use Rattle.octets.specs.Rules.{first_failing}
use Rattle.capture_io.specs.Capture.{in_span}
use Rattle.capture_io.specs.Limits.{most_frame_octets, most_records}
use Rattle.capture_ng.specs.Blocks.{begins_section, head_of, is_length, is_magic, is_packet, is_read, kind_at, order_of}
use Rattle.capture_ng.specs.Interfaces.{are_options, option_octets}
use Rattle.capture_ng.specs.Limits.{most_block_octets, most_blocks, most_interfaces}
use Rattle.capture_io.specs.Capture.{number}
use Rattle.capture_ng.specs.Packets.{interface_of, is_moment, kept, moment, packet_room}
use Rattle.capture_ng.specs.Position.{Position}
use Rattle.capture_ng.specs.declared.head.Kind.TheVariants.{SectionHeader, InterfaceDescription, ObsoletePacket, SimplePacket, EnhancedPacket, Other}
use Rattle.capture_ng.specs.declared.head.Kind.{Kind}
use Rattle.capture_ng.specs.declared.head.Head.{Head}
use Rattle.capture_ng.specs.declared.interface.Interface.{Interface}
use Rattle.capture_ng.specs.declared.fault.NgFault.{NgFault}
use Rattle.capture_ng.specs.declared.fault.NgFault.TheVariants.{TooManyRecords, CutBlock, BadMagic, BadLength, TooLong, OldPacket, BadVersion, BadOption, TooManyInterfaces, BadInterface, BadLinkType, BadMoment, SpanTooLong}

-- whether a packet block begins: its Block Type is there
abbrev pub begins_packet : Position → List ℕ → Bool
begins_packet at left = nat_le 4 (length left) && is_packet (kind_at at left)

-- whether there may be one block more, and where it is a packet block, one frame more
abbrev pub has_room : Position → List ℕ → Bool
has_room at left =
    nat_lt at.blocks most_blocks && (not (begins_packet at left) || nat_lt at.count most_records)

-- the rules of a block's first octets
abbrev pub begin_rules : Position → List ℕ → List (Bool × NgFault)
begin_rules at left =
    (has_room at left, TooManyRecords)
    ∷ (nat_le 8 (length left), CutBlock at.place)
    ∷ (begins_section left || is_some at.order, BadMagic)
    ∷ (not (begins_section left) || nat_le 12 (length left), CutBlock at.place)
    ∷ (not (begins_section left) || is_magic (number (order_of at left) 4 left 8), BadMagic)
    ∷ []

-- the rules of a block's total length
abbrev pub length_rules : Position → Head → List (Bool × NgFault)
length_rules at head =
    (is_length head.kind head.length, BadLength at.place)
    ∷ (not (is_read head.kind) || nat_le head.length most_block_octets, TooLong at.place head.length)
    ∷ []

-- the rules of the head of the next block
abbrev pub head_rules : Position → List ℕ → List (Bool × NgFault)
head_rules at left = begin_rules at left ++ length_rules at (head_of at left)

-- whether a kind isn't that of an obsolete packet block
abbrev pub is_current : Kind → Bool
is_current ObsoletePacket = false
is_current _ = true

-- the rules of a whole block: all of it is there, its second total length is the first, and it isn't obsolete
abbrev pub whole_rules : Position → Head → List ℕ → List (Bool × NgFault)
whole_rules at head left =
    (nat_le head.length (length left), CutBlock at.place)
    ∷ (number head.order 4 left (head.length - 4) == head.length, BadLength at.place)
    ∷ (is_current head.kind, OldPacket at.place)
    ∷ []

-- the rules of a whole block by the number in its last four octets, which is None where the block is cut
abbrev pub ended_rules : Position → Head → Option ℕ → List (Bool × NgFault)
ended_rules at head last =
    (is_some last, CutBlock at.place)
    ∷ (unwrap_or last 0 == head.length, BadLength at.place)
    ∷ (is_current head.kind, OldPacket at.place)
    ∷ []

-- the rules of a section header: its Major Version is 1
abbrev pub section_rules : Position → Head → List ℕ → List (Bool × NgFault)
section_rules at head left = (number head.order 2 left 12 == 1, BadVersion at.place) ∷ []

-- the rules of an interface: its options are proper, and its section may have one more
abbrev pub interface_rules : Position → Head → List ℕ → List (Bool × NgFault)
interface_rules at head left =
    (are_options head.order (option_octets head left), BadOption at.place)
    ∷ (nat_lt (length at.interfaces) most_interfaces, TooManyInterfaces at.place)
    ∷ []

-- the rules of a packet whose interface is known: LinkType, kept length, moment and span
abbrev pub seen_rules : Position → Head → List ℕ → Interface → List (Bool × NgFault)
seen_rules at head left interface =
    (is_some interface.link, BadLinkType at.place)
    ∷ (nat_le (kept head interface left) (packet_room head), BadLength at.place)
    ∷ (nat_le (kept head interface left) most_frame_octets, TooLong at.place (kept head interface left))
    ∷ (is_moment (moment at head interface left), BadMoment at.place)
    ∷ (in_span at.greatest (unwrap_or (moment at head interface left) 0), SpanTooLong (at.count + 1))
    ∷ []

-- the rules of a packet: its section has its interface, and then those of a packet whose interface is known
abbrev pub packet_rules : Position → Head → List ℕ → List (Bool × NgFault)
packet_rules at head left = elim (interface_of at head left) [
  | None ↦ (false, BadInterface at.place) ∷ []
  | Some interface ↦ seen_rules at head left interface
]

-- the rules of a block's body, by its kind
abbrev pub body_rules : Kind → Position → Head → List ℕ → List (Bool × NgFault)
body_rules SectionHeader at head left = section_rules at head left
body_rules InterfaceDescription at head left = interface_rules at head left
body_rules SimplePacket at head left = packet_rules at head left
body_rules EnhancedPacket at head left = packet_rules at head left
body_rules ObsoletePacket at head left = []
body_rules Other at head left = []

-- all rules of the next block
abbrev pub block_rules : Position → List ℕ → List (Bool × NgFault)
block_rules at left =
    begin_rules at left
    ++ (length_rules at (head_of at left)
    ++ (whole_rules at (head_of at left) left
    ++ body_rules (head_of at left).kind at (head_of at left) left))

-- the fault of the next block, or None
abbrev pub block_fault : Position → List ℕ → Option NgFault
block_fault at left = first_failing (block_rules at left)

-- the fault at the end of the octets, or None: the empty file is cut
abbrev pub end_fault : Position → Option NgFault
end_fault at = elim at.order [ None ↦ Some (CutBlock at.place) | Some order ↦ None ]
