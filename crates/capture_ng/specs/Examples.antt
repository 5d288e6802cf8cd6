-- Worked captures in octets and in blocks.
use Rattle.std.specs.Prelude.{ℕ, ◌-◌, ◌^◌, true, false, List, [], ◌∷◌, ◌++◌, map, replicate, take, Option, Some}
use Rattle.capture_io.specs.Frame.{Frame}
use Rattle.octets.specs.Numbers.{big_octets, little_octets}
use Rattle.capture_ng.specs.Frames.{ng_fault, ng_frames}
use Rattle.capture_ng.specs.Position.{Position, begin}
use Rattle.capture_ng.specs.Spelling.{interface_block, option, packet_block, section_block}
use Rattle.capture_io.specs.declared.order.Order.TheVariants.{Little}
use Rattle.capture_ng.specs.declared.fault.NgFault.{NgFault}
use Rattle.capture_io.specs.declared.link.Link.TheVariants.{Raw}

-- a section header, little-endian
abbrev pub section : List ℕ
section =
    0x0a ∷ 0x0d ∷ 0x0d ∷ 0x0a ∷ 0x1c ∷ 0 ∷ 0 ∷ 0 ∷ 0x4d ∷ 0x3c ∷ 0x2b ∷ 0x1a ∷ 1 ∷ 0 ∷ 0 ∷ 0
    ∷ 0xff ∷ 0xff ∷ 0xff ∷ 0xff ∷ 0xff ∷ 0xff ∷ 0xff ∷ 0xff ∷ 0x1c ∷ 0 ∷ 0 ∷ 0 ∷ []

-- an interface of raw IP, with a snap length of 262,144 and without options
abbrev pub interface : List ℕ
interface = 1 ∷ 0 ∷ 0 ∷ 0 ∷ 0x14 ∷ 0 ∷ 0 ∷ 0 ∷ 0x65 ∷ 0 ∷ 0 ∷ 0 ∷ 0 ∷ 0 ∷ 4 ∷ 0 ∷ 0x14 ∷ 0 ∷ 0 ∷ 0 ∷ []

-- the 28 octets of an IPv4 packet
abbrev pub packet : List ℕ
packet =
    0x45 ∷ 0 ∷ 0 ∷ 0x1c ∷ 0 ∷ 0 ∷ 0 ∷ 0 ∷ 0x40 ∷ 0x11 ∷ 0x66 ∷ 0xc1 ∷ 0x0a ∷ 1 ∷ 0 ∷ 5
    ∷ 0x0a ∷ 2 ∷ 0 ∷ 9 ∷ 3 ∷ 0xe8 ∷ 7 ∷ 0xd0 ∷ 0 ∷ 8 ∷ 0 ∷ 0 ∷ []

-- the octets of an enhanced packet block before that packet; its Timestamp is 1,700,000,000 seconds in microseconds
abbrev pub packet_head : List ℕ
packet_head =
    6 ∷ 0 ∷ 0 ∷ 0 ∷ 0x3c ∷ 0 ∷ 0 ∷ 0 ∷ 0 ∷ 0 ∷ 0 ∷ 0 ∷ 0x24 ∷ 0x0a ∷ 6 ∷ 0 ∷ 0 ∷ 0x40 ∷ 0x1e ∷ 0x18
    ∷ 0x1c ∷ 0 ∷ 0 ∷ 0 ∷ 0x1c ∷ 0 ∷ 0 ∷ 0 ∷ []

-- a file with one packet: a section header, an interface and an enhanced packet block
abbrev pub one_packet : List ℕ
one_packet =
    section ++ (interface ++ (packet_head ++ (packet ++ (0x3c ∷ 0 ∷ 0 ∷ 0 ∷ []))))

-- the file with one packet, without its last four octets
abbrev pub cut_packet : List ℕ
cut_packet = take 104 one_packet

-- the frame of the file with one packet
abbrev pub packet_frame : Frame
packet_frame = record { number = 1; moment = 1700000000000000000; link = Raw; octets = packet }

-- the moments of a file's frames
abbrev pub moments : List ℕ → List ℕ
moments file = map (λ f. f.moment) (ng_frames file false)

-- a file with an interface of these options, and one octet that was seen on it, with that Timestamp
abbrev pub at_time : List ℕ → ℕ → List ℕ
at_time options time =
    section_block ++ (interface_block 101 0 options ++ packet_block 0 time (69 ∷ []))

-- options of an interface: if_tsresol with a value (`unit`), and if_tsoffset with seconds as 64 bits (`added`)
abbrev pub unit : ℕ → List ℕ
unit x = option 9 (x ∷ [])

abbrev pub added : ℕ → List ℕ
added x = option 14 (little_octets 8 x)

-- the fault of a section header with these blocks behind it
abbrev pub fault_behind : List ℕ → Option NgFault
fault_behind blocks = ng_fault (section_block ++ blocks)

-- the fault of a section header and an interface of raw IP, whose SnapLen is 4, with these blocks behind them
abbrev pub fault_seen : List ℕ → Option NgFault
fault_seen blocks = fault_behind (interface_block 101 4 [] ++ blocks)

-- a position far on in a file, behind so many blocks and frames
abbrev pub far : ℕ → ℕ → Position
far blocks count = record begin { blocks = blocks; count = count; order = Some Little }

-- a big-endian section with an interface of Ethernet, whose unit is nanoseconds, and a packet of it
abbrev pub big_section : List ℕ
big_section =
    0x0a ∷ 0x0d ∷ 0x0d ∷ 0x0a ∷ (big_octets 4 28 ++ (big_octets 4 0x1a2b3c4d ++ (big_octets 2 1 ++ (big_octets 2 0
    ++ (big_octets 8 (2 ^ 64 - 1) ++ (big_octets 4 28
    ++ (big_octets 4 1 ++ (big_octets 4 28 ++ (big_octets 2 1 ++ (big_octets 2 0 ++ (big_octets 4 0
    ++ (big_octets 2 9 ++ (big_octets 2 1 ++ (9 ∷ 0 ∷ 0 ∷ 0 ∷ [] ++ (big_octets 4 28
    ++ (big_octets 4 6 ++ (big_octets 4 36 ++ (big_octets 4 0 ++ (big_octets 4 0 ++ (big_octets 4 7
    ++ (big_octets 4 1 ++ (big_octets 4 1 ++ (69 ∷ 0 ∷ 0 ∷ 0 ∷ [] ++ big_octets 4 36)))))))))))))))))))))))

-- Ethernet headers: one without a tag (`untagged`), and one with a tag (`tagged_already`)
abbrev pub untagged : List ℕ
untagged = replicate 12 2 ++ (8 ∷ 0 ∷ [])

abbrev pub tagged_already : List ℕ
tagged_already = replicate 12 2 ++ (0x81 ∷ 0 ∷ 0 ∷ 7 ∷ 8 ∷ 0 ∷ [])

-- a file with two interfaces of Ethernet and one of raw IP, and a frame that was seen on the interface of that number
abbrev pub seen_on : ℕ → List ℕ → List ℕ
seen_on interface octets =
    section_block ++ (interface_block 1 0 [] ++ (interface_block 1 0 [] ++ (interface_block 101 0 []
    ++ packet_block interface 0 octets)))

-- the octets of the frame that was seen on an interface, as they are read where interfaces are VLANs
abbrev pub seen_as : ℕ → List ℕ → List (List ℕ)
seen_as interface octets = map (λ f. f.octets) (ng_frames (seen_on interface octets) true)
