-- Blocks of a pcapng file: a type, a total length, a body, and the total length again.
use Rattle.std.specs.Prelude.{ℕ, ◌-◌, ◌%◌, ◌==◌, ◌&&◌, nat_le, Bool, true, false, List, length, Option, Some, None, unwrap_or, if◌then◌else◌}
use Rattle.octets.specs.Numbers.{little}
use Rattle.capture_io.specs.Capture.{number}
use Rattle.capture_ng.specs.Position.{Position}
use Rattle.capture_io.specs.declared.order.Order.{Order}
use Rattle.capture_io.specs.declared.order.Order.TheVariants.{Little, Big}
use Rattle.capture_ng.specs.declared.head.Kind.{Kind}
use Rattle.capture_ng.specs.declared.head.Kind.TheVariants.{SectionHeader, InterfaceDescription, ObsoletePacket, SimplePacket, EnhancedPacket, Other}
use Rattle.capture_ng.specs.declared.head.Head.{Head}

-- the kind of a block other than a section header, by its Block Type
abbrev pub kind_of : ℕ → Kind
kind_of code =
    if code == 1 then InterfaceDescription
    else if code == 2 then ObsoletePacket
    else if code == 3 then SimplePacket
    else if code == 6 then EnhancedPacket
    else Other

-- whether a block of that kind keeps a packet that becomes a frame
abbrev pub is_packet : Kind → Bool
is_packet SimplePacket = true
is_packet EnhancedPacket = true
is_packet _ = false

-- whether a kind is one of the four whose body is read; the body of any other is passed over
abbrev pub is_read : Kind → Bool
is_read SectionHeader = true
is_read InterfaceDescription = true
is_read ObsoletePacket = false
is_read SimplePacket = true
is_read EnhancedPacket = true
is_read Other = false

-- the least total length of a block of that kind, in octets
abbrev pub least_length : Kind → ℕ
least_length SectionHeader = 28
least_length InterfaceDescription = 20
least_length ObsoletePacket = 12
least_length SimplePacket = 16
least_length EnhancedPacket = 32
least_length Other = 12

-- whether a block of that kind may have a total length: a multiple of four, and no less than the least
abbrev pub is_length : Kind → ℕ → Bool
is_length kind total = total % 4 == 0 && nat_le (least_length kind) total

-- whether octets begin with the Block Type of a section header, which reads the same in both byte orders
abbrev pub begins_section : List ℕ → Bool
begins_section left = little 4 left 0 == 0x0a0d0d0a

-- whether a number is the Byte-Order Magic of a section header
abbrev pub is_magic : ℕ → Bool
is_magic m = m == 0x1a2b3c4d

-- the byte order of a section header: little-endian where its Byte-Order Magic is right in that order, else big-endian
abbrev pub magic_order : List ℕ → Order
magic_order left = if is_magic (little 4 left 8) then Little else Big

-- the byte order of the next block: by its Byte-Order Magic where it is a section header, else that of its section
abbrev pub order_of : Position → List ℕ → Order
order_of at left = if begins_section left then magic_order left else unwrap_or at.order Little

-- the kind of the next block
abbrev pub kind_at : Position → List ℕ → Kind
kind_at at left =
    if begins_section left then SectionHeader
    else kind_of (number (unwrap_or at.order Little) 4 left 0)

-- the head of the next block, by its first octets
abbrev pub head_of : Position → List ℕ → Head
head_of at left = record {
  kind = kind_at at left;
  order = order_of at left;
  length = number (order_of at left) 4 left 4;
}

-- how many of a block's octets are its first ones: twelve of a section header, with its Byte-Order Magic, eight of any
-- other, with its total length
abbrev pub first_size : List ℕ → ℕ
first_size left = if begins_section left then 12 else 8

-- the number in the last four of so many octets, or None where fewer are left
abbrev pub last_number : Order → ℕ → List ℕ → Option ℕ
last_number order size left =
    if nat_le size (length left) then Some (number order 4 left (size - 4)) else None
