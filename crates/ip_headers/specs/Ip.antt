-- IPv4 and IPv6 packets, RFC 791 and RFC 8200.
use Rattle.std.specs.Prelude.{◌≡◌, ℕ, ◌+◌, ◌*◌, ◌/◌, ◌%◌, ◌==◌, ◌||◌, ◌&&◌, not, nat_le, Bool, false, List, [], ◌∷◌, length, take, slice_index, if◌then◌else◌}
use Rattle.octets.specs.Numbers.{big}
use Rattle.octets.specs.declared.refused.Refused.{Refused}
use Rattle.octets.specs.declared.refused.Layer.TheVariants.{Ip}
use Rattle.octets.specs.declared.refused.Why.{Why}
use Rattle.octets.specs.declared.refused.Why.TheVariants.{Short, Version, HeaderLength, TotalLength, Checksum}
use Rattle.ip_headers.specs.Checksum.{ones_sum}
use Rattle.ip_headers.specs.declared.addr.Addr.{Addr}
use Rattle.ip_headers.specs.declared.header.IpHeader.{IpHeader}
use Rattle.ip_headers.specs.declared.header.IpHeader.TheVariants.{V4, V6}
use Rattle.ip_headers.specs.declared.header.V4Header.{V4Header}
use Rattle.ip_headers.specs.declared.header.V6Header.{V6Header}
use Rattle.ip_headers.specs.declared.addr.Addr.TheVariants as family

-- the version, in the first four bits
abbrev pub version : List ℕ → ℕ
version octets = slice_index octets 0 / 16

-- whether a packet is an IPv4 packet
abbrev pub is_v4 : List ℕ → Bool
is_v4 octets = version octets == 4

-- whether a packet is an IPv6 packet
abbrev pub is_v6 : List ℕ → Bool
is_v6 octets = version octets == 6

-- the octets of an IPv4 header, which counts them in words of four
abbrev pub header_len : List ℕ → ℕ
header_len octets = slice_index octets 0 % 16 * 4

-- whether the total length of an IPv4 packet is at least its header's, and at most that of the octets
abbrev pub total_fits : List ℕ → Bool
total_fits octets =
    nat_le (header_len octets) (big 2 octets 2) && nat_le (big 2 octets 2) (length octets)

-- the ones' complement sum of an IPv4 header
abbrev pub header_sum : List ℕ → ℕ
header_sum octets = ones_sum (take (header_len octets) octets)

-- a refusal at a place after the base
abbrev pub refused : ℕ → ℕ → Why → Refused
refused base at why = record { layer = Ip; place = base + at; why = why }

-- the rules of an IP packet; an IPv6 packet fulfils those of IPv4 by definition, and an IPv4 packet those of IPv6
abbrev pub ip_rules : ℕ → List ℕ → List (Bool × Refused)
ip_rules base octets =
    (nat_le 1 (length octets), refused base 0 Short)
    ∷ (is_v4 octets || is_v6 octets, refused base 0 Version)
    ∷ (is_v6 octets || nat_le 20 (length octets), refused base 0 Short)
    ∷ (is_v6 octets || nat_le 20 (header_len octets), refused base 0 HeaderLength)
    ∷ (is_v6 octets || nat_le (header_len octets) (length octets), refused base 20 Short)
    ∷ (is_v6 octets || total_fits octets, refused base 2 TotalLength)
    ∷ (is_v6 octets || (header_sum octets == 65535), refused base 10 Checksum)
    ∷ (is_v4 octets || nat_le 40 (length octets), refused base 0 Short)
    ∷ (is_v4 octets || nat_le (big 2 octets 4 + 40) (length octets), refused base 4 TotalLength)
    ∷ []

-- the IPv4 header at the front of the octets
abbrev pub v4_at : List ℕ → V4Header
v4_at octets = record {
  source = big 4 octets 12;
  dest = big 4 octets 16;
  tos = slice_index octets 1;
  total = big 2 octets 2;
  id = big 2 octets 4;
  dont_fragment = big 2 octets 6 / 16384 % 2 == 1;
  more = big 2 octets 6 / 8192 % 2 == 1;
  offset = big 2 octets 6 % 8192;
  ttl = slice_index octets 8;
  protocol = slice_index octets 9;
  header_len = header_len octets;
}

-- the IPv6 header at the front of the octets
abbrev pub v6_at : List ℕ → V6Header
v6_at octets = record {
  source = big 16 octets 8;
  dest = big 16 octets 24;
  class = big 2 octets 0 / 16 % 256;
  flow = big 4 octets 0 % 1048576;
  payload = big 2 octets 4;
  next = slice_index octets 6;
  hops = slice_index octets 7;
}

-- the header at the front of the octets, by their version
abbrev pub header_at : List ℕ → IpHeader
header_at octets = if is_v4 octets then V4 (v4_at octets) else V6 (v6_at octets)

-- the length of a packet in octets, as its header names it
abbrev pub packet_len : IpHeader → ℕ
packet_len (V4 header) = header.total
packet_len (V6 header) = header.payload + 40

-- the packet at the front of the octets
abbrev pub packet_in : List ℕ → List ℕ
packet_in octets = take (packet_len (header_at octets)) octets

-- the place in a packet where its payload begins
abbrev pub payload_place : IpHeader → ℕ
payload_place (V4 header) = header.header_len
payload_place (V6 header) = 40

-- the source address
abbrev pub source_of : IpHeader → Addr
source_of (V4 header) = family.V4 header.source
source_of (V6 header) = family.V6 header.source

-- the destination address
abbrev pub dest_of : IpHeader → Addr
dest_of (V4 header) = family.V4 header.dest
dest_of (V6 header) = family.V6 header.dest

-- the Time to Live, or the Hop Limit
abbrev pub ttl_of : IpHeader → ℕ
ttl_of (V4 header) = header.ttl
ttl_of (V6 header) = header.hops

-- DSCP and ECN, RFC 2474 and RFC 3168
abbrev pub class_of : IpHeader → ℕ
class_of (V4 header) = header.tos
class_of (V6 header) = header.class

-- the Protocol, or the Next Header
abbrev pub protocol_of : IpHeader → ℕ
protocol_of (V4 header) = header.protocol
protocol_of (V6 header) = header.next

-- whether a packet is a part of another: an IPv4 packet with more fragments set, as the first part has, or with an
-- offset
abbrev pub is_fragment : IpHeader → Bool
is_fragment (V4 header) = header.more || not (header.offset == 0)
is_fragment (V6 header) = false

-- the octets begin with this IPv4 header. The reserved flag, the checksum and the options are free.
pub record SpellsV4 (octets : List ℕ) (header : V4Header) : Type 0 where
  pub version : version octets ≡ 4
  pub words : header_len octets ≡ header.header_len
  pub tos : slice_index octets 1 ≡ header.tos
  pub total : big 2 octets 2 ≡ header.total
  pub id : big 2 octets 4 ≡ header.id
  pub dont_fragment : (big 2 octets 6 / 16384 % 2 == 1) ≡ header.dont_fragment
  pub more : (big 2 octets 6 / 8192 % 2 == 1) ≡ header.more
  pub offset : big 2 octets 6 % 8192 ≡ header.offset
  pub ttl : slice_index octets 8 ≡ header.ttl
  pub protocol : slice_index octets 9 ≡ header.protocol
  pub source : big 4 octets 12 ≡ header.source
  pub dest : big 4 octets 16 ≡ header.dest

-- the octets begin with this IPv6 header
pub record SpellsV6 (octets : List ℕ) (header : V6Header) : Type 0 where
  pub version : version octets ≡ 6
  pub class : big 2 octets 0 / 16 % 256 ≡ header.class
  pub flow : big 4 octets 0 % 1048576 ≡ header.flow
  pub payload : big 2 octets 4 ≡ header.payload
  pub next : slice_index octets 6 ≡ header.next
  pub hops : slice_index octets 7 ≡ header.hops
  pub source : big 16 octets 8 ≡ header.source
  pub dest : big 16 octets 24 ≡ header.dest

-- the octets begin with this header
abbrev pub Spells : List ℕ → IpHeader → Type 0
Spells octets (V4 header) = SpellsV4 octets header
Spells octets (V6 header) = SpellsV6 octets header
