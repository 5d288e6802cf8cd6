-- Spellings of the blocks of a little-endian section, for worked examples.
use Rattle.std.specs.Prelude.{ℕ, ◌+◌, ◌-◌, ◌/◌, ◌%◌, ◌^◌, List, [], ◌++◌, length, replicate}
use Rattle.octets.specs.Numbers.{little_octets}

-- octets with zeros up to a multiple of four
abbrev pub filled : List ℕ → List ℕ
filled octets = octets ++ replicate ((4 - length octets % 4) % 4) 0

-- a block: its Block Type, its total length, its body, its total length again
abbrev pub block : ℕ → List ℕ → List ℕ
block code body =
    little_octets 4 code
    ++ (little_octets 4 (length body + 12) ++ (body ++ little_octets 4 (length body + 12)))

-- a section header of version 1.0 whose Section Length isn't specified
abbrev pub section_block : List ℕ
section_block =
    block 0x0a0d0d0a (little_octets 4 0x1a2b3c4d
    ++ (little_octets 2 1 ++ (little_octets 2 0 ++ little_octets 8 (2 ^ 64 - 1))))

-- an option: its code, the length of its value, its value with padding
abbrev pub option : ℕ → List ℕ → List ℕ
option code value = little_octets 2 code ++ (little_octets 2 (length value) ++ filled value)

-- the end of options (opt_endofopt), which may be left out
abbrev pub options_end : List ℕ
options_end = option 0 []

-- an interface description block of a LinkType, a SnapLen and options
abbrev pub interface_block : ℕ → ℕ → List ℕ → List ℕ
interface_block link snap options =
    block 1 (little_octets 2 link ++ (little_octets 2 0 ++ (little_octets 4 snap ++ options)))

-- an enhanced packet block with any fields: Interface ID, Timestamp, the kept length that it states, and its octets
abbrev pub packet_fields : ℕ → ℕ → ℕ → List ℕ → List ℕ
packet_fields interface time kept octets =
    block 6 (little_octets 4 interface
    ++ (little_octets 4 (time / 2 ^ 32) ++ (little_octets 4 (time % 2 ^ 32)
    ++ (little_octets 4 kept ++ (little_octets 4 kept ++ filled octets)))))

-- an enhanced packet block of an interface, with a Timestamp in the interface's units and the packet's octets
abbrev pub packet_block : ℕ → ℕ → List ℕ → List ℕ
packet_block interface time octets = packet_fields interface time (length octets) octets

-- a simple packet block with the Original Packet Length that it states, and its octets
abbrev pub simple_block : ℕ → List ℕ → List ℕ
simple_block size octets = block 3 (little_octets 4 size ++ filled octets)
