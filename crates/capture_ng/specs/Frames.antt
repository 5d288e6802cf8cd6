-- All frames of a pcapng capture, and the fault at its end: block by block.
use Rattle.std.specs.Prelude.{ℕ, zero, suc, ◌+◌, Bool, false, List, [], ◌∷◌, ◌++◌, length, drop, Option, Some, None, option_map}
use Rattle.capture_io.specs.Frame.{Frame}
use Rattle.capture_io.specs.Run.{Run, before, ended}
use Rattle.capture_ng.specs.Blocks.{head_of}
use Rattle.capture_ng.specs.Faults.{block_fault, end_fault}
use Rattle.capture_ng.specs.Interfaces.{interface_in}
use Rattle.capture_ng.specs.Packets.{Packet, frame_of, packet_in, packet_in_kind}
use Rattle.capture_ng.specs.Position.{Position, begin}
use Rattle.capture_ng.specs.declared.head.Kind.{Kind}
use Rattle.capture_ng.specs.declared.head.Kind.TheVariants.{SectionHeader, InterfaceDescription, ObsoletePacket, SimplePacket, EnhancedPacket, Other}
use Rattle.capture_ng.specs.declared.head.Head.{Head}
use Rattle.capture_ng.specs.declared.fault.NgFault.{NgFault}

-- the run behind a block, with the block's frame before it if there is one
abbrev pub behind : Option Frame → Run NgFault → Run NgFault
behind None run = run
behind (Some f) run = before f run

-- the run from a block on: its frame and the run behind it, or its fault alone where it has one
abbrev pub of_block : Option NgFault → Option Frame → Run NgFault → Run NgFault
of_block None frame run = behind frame run
of_block (Some fault) frame run = ended (Some fault)

-- the frame of the next block, or None where it keeps none
abbrev pub block_frame : Bool → Position → List ℕ → Option Frame
block_frame vlans at left = option_map (frame_of vlans) (packet_in at (head_of at left) left)

-- the position moved by one block: its octets, and its count
abbrev pub passed : Position → Head → Position
passed at head = record at { place = at.place + head.length; blocks = at.blocks + 1 }

-- the position with a packet's frame counted, if there is one
abbrev pub counted : Position → Option Packet → Position
counted at None = at
counted at (Some packet) =
    record at { count = packet.frame.number; greatest = Some packet.frame.moment }

-- the position behind a block, by its kind: a section header begins a section without interfaces, an interface
-- description block adds its interface, a packet block counts its frame
abbrev pub after_block : Kind → Position → Head → List ℕ → Position
after_block SectionHeader at head left =
    record (passed at head) { order = Some head.order; interfaces = [] }
after_block InterfaceDescription at head left =
    record (passed at head) { interfaces = at.interfaces ++ interface_in head left ∷ [] }
after_block SimplePacket at head left =
    counted (passed at head) (packet_in_kind SimplePacket at head left)
after_block EnhancedPacket at head left =
    counted (passed at head) (packet_in_kind EnhancedPacket at head left)
after_block ObsoletePacket at head left = passed at head
after_block Other at head left = passed at head

-- the position behind the next block
abbrev pub advanced : Position → List ℕ → Position
advanced at left = after_block (head_of at left).kind at (head_of at left) left

-- the octets left behind the next block
abbrev pub rest : Position → List ℕ → List ℕ
rest at left = drop (head_of at left).length left

-- the run from a position on, of at most n blocks
unfoldable pub blocks_within : ℕ → Bool → Position → List ℕ → Run NgFault
blocks_within zero vlans at left = ended (end_fault at)
blocks_within (suc n) vlans at [] = ended (end_fault at)
blocks_within (suc n) vlans at (x ∷ left) =
    of_block (block_fault at (x ∷ left)) (block_frame vlans at (x ∷ left))
    (blocks_within n vlans (advanced at (x ∷ left)) (rest at (x ∷ left)))

-- the run from a position on: there are no more blocks than octets
unfoldable pub read_on : Bool → Position → List ℕ → Run NgFault
read_on vlans at left = blocks_within (length left) vlans at left

-- the frames of a file, where interfaces are VLANs or not
abbrev pub ng_frames : List ℕ → Bool → List Frame
ng_frames file vlans = (read_on vlans begin file).frames

-- the first fault of a file, or None
abbrev pub ng_fault : List ℕ → Option NgFault
ng_fault file = (read_on false begin file).fault
