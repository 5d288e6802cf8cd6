-- UDP, RFC 768; its pseudo-header over IPv6, RFC 8200 section 8.1.
use Rattle.std.specs.Prelude.{◌≡◌, ℕ, ◌<◌, ◌+◌, ◌-◌, ◌^◌, ◌==◌, ◌&&◌, nat_le, Bool, List, [], ◌∷◌, ◌++◌, length, take, drop, Option, Some, None, Result, Ok, Err, if◌then◌else◌}
use Rattle.octets.specs.Numbers.{big, big_octets}
use Rattle.octets.specs.Rules.{first_failing}
use Rattle.octets.specs.declared.refused.Refused.{Refused}
use Rattle.octets.specs.declared.refused.Layer.TheVariants.{Udp}
use Rattle.octets.specs.declared.refused.Why.{Why}
use Rattle.octets.specs.declared.refused.Why.TheVariants.{Short, UdpLength, UdpChecksum}
use Rattle.ip_headers.specs.Checksum.{ones_sum}
use Rattle.ip_headers.specs.Ip.{source_of, dest_of}
use Rattle.ip_headers.specs.declared.addr.Addr.{Addr}
use Rattle.ip_headers.specs.declared.addr.Addr.TheVariants.{V4, V6}
use Rattle.ip_headers.specs.declared.header.IpHeader.{IpHeader}
use Rattle.ip_headers.specs.declared.header.UdpHeader.{UdpHeader}
use Rattle.ip_headers.specs.declared.packet.IpPacket.{IpPacket}

-- a refusal at a place after the base
abbrev pub udp_refused : ℕ → ℕ → Why → Refused
udp_refused base at why = record { layer = Udp; place = base + at; why = why }

-- whether the length that a UDP header at a place names is at least eight, and lies in the packet
abbrev pub length_fits : ℕ → List ℕ → Bool
length_fits at octets =
    let size = big 2 octets (at + 4) in
    nat_le 8 size && nat_le (at + size) (length octets)

-- the rules of a UDP header at a place of a packet
abbrev pub udp_rules : ℕ → ℕ → List ℕ → List (Bool × Refused)
udp_rules base at octets =
    (nat_le (at + 8) (length octets), udp_refused base at Short)
    ∷ (length_fits at octets, udp_refused base (at + 4) UdpLength)
    ∷ []

-- the UDP header at a place
abbrev pub udp_at : ℕ → List ℕ → UdpHeader
udp_at at octets = record {
  source = big 2 octets at;
  dest = big 2 octets (at + 2);
  length = big 2 octets (at + 4);
  checksum = big 2 octets (at + 6);
  at = at;
}

-- the answer of a reader: the refusal, or else the value
abbrev pub answer_of : {T : Type 0} → Option Refused → T → Result T Refused
answer_of (Some refused) value = Err refused
answer_of None value = Ok value

-- the UDP header where the payload of the packet begins, or the first rule that fails
abbrev pub udp_read : IpPacket → Result UdpHeader Refused
udp_read packet =
    let octets = packet.octets.now in
    let at = packet.payload_at in
    answer_of (first_failing (udp_rules packet.base at octets)) (udp_at at octets)

-- the octets of an address
abbrev pub addr_octets : Addr → List ℕ
addr_octets (V4 n) = big_octets 4 n
addr_octets (V6 n) = big_octets 16 n

-- the pseudo-header, which the checksum covers before the UDP header: the addresses, the protocol 17 and the length
abbrev pub pseudo_header : Addr → Addr → ℕ → List ℕ
pseudo_header (V4 n) to length =
    big_octets 4 n ++ (addr_octets to ++ 0 ∷ 17 ∷ big_octets 2 length)
pseudo_header (V6 n) to length =
    big_octets 16 n ++ (addr_octets to ++ (big_octets 4 length ++ 0 ∷ 0 ∷ 0 ∷ 17 ∷ []))

-- the ones' complement sum of a datagram and its pseudo-header
abbrev pub udp_sum : Addr → Addr → List ℕ → ℕ
udp_sum from to datagram = ones_sum (pseudo_header from to (length datagram) ++ datagram)

-- a UDP header and its payload, as many octets as the header names
abbrev pub datagram_in : List ℕ → UdpHeader → List ℕ
datagram_in octets udp = take udp.length (drop udp.at octets)

-- the datagram of a packet
abbrev pub datagram_of : IpPacket → UdpHeader → List ℕ
datagram_of packet udp = datagram_in packet.octets.now udp

-- the payload behind a UDP header, which with it has as many octets as the header names
abbrev pub payload_in : List ℕ → UdpHeader → List ℕ
payload_in octets udp = take (udp.length - 8) (drop (udp.at + 8) octets)

-- the payload of the datagram of a packet
abbrev pub payload_of : IpPacket → UdpHeader → List ℕ
payload_of packet udp = payload_in packet.octets.now udp

-- the sum of the datagram of a packet
abbrev pub packet_sum : IpPacket → UdpHeader → ℕ
packet_sum packet udp =
    udp_sum (source_of packet.header) (dest_of packet.header) (datagram_of packet udp)

-- whether the checksum of a datagram is right, or is 0 where that is allowed
abbrev pub sum_holds : IpHeader → List ℕ → UdpHeader → Bool → Bool
sum_holds header octets udp zero_allowed =
    if udp.checksum == 0 then zero_allowed
    else (udp_sum (source_of header) (dest_of header) (datagram_in octets udp) == 65535)

-- the rule of the checksum of a datagram
abbrev pub sum_rules : ℕ → IpHeader → List ℕ → UdpHeader → Bool → List (Bool × Refused)
sum_rules base header octets udp zero_allowed =
    (sum_holds header octets udp zero_allowed, udp_refused base (udp.at + 6) UdpChecksum) ∷ []

-- the rule of the checksum of a packet's datagram
abbrev pub udp_checksum_rules : IpPacket → UdpHeader → Bool → List (Bool × Refused)
udp_checksum_rules packet udp zero_allowed =
    sum_rules packet.base packet.header packet.octets.now udp zero_allowed

-- the eight octets of a UDP header
abbrev pub udp_octets : ℕ → ℕ → ℕ → ℕ → List ℕ
udp_octets source dest size sum =
    big_octets 2 source ++ (big_octets 2 dest ++ (big_octets 2 size ++ big_octets 2 sum))

-- the eight octets of a UDP header, with the checksum that it holds
abbrev pub canonical_udp_header : UdpHeader → List ℕ
canonical_udp_header udp = udp_octets udp.source udp.dest udp.length udp.checksum

-- the numbers of a UDP header fit their fields
pub record InRangeUdp (udp : UdpHeader) : Type 0 where
  pub source : udp.source < 2 ^ 16
  pub dest : udp.dest < 2 ^ 16
  pub length : udp.length < 2 ^ 16
  pub checksum : udp.checksum < 2 ^ 16

-- a datagram with that checksum
abbrev pub datagram : ℕ → ℕ → ℕ → List ℕ → List ℕ
datagram source dest sum payload = udp_octets source dest (8 + length payload) sum ++ payload

-- a computed checksum of 0 is sent as all ones
abbrev pub nonzero : ℕ → ℕ
nonzero sum = if sum == 0 then 65535 else sum

-- the checksum of a datagram, computed with 0 in its place
abbrev pub udp_checksum : Addr → Addr → ℕ → ℕ → List ℕ → ℕ
udp_checksum from to source dest payload =
    nonzero (65535 - udp_sum from to (datagram source dest 0 payload))

-- the datagram from one address and port to another; without a sum its checksum is 0
abbrev pub canonical_udp : Addr → Addr → ℕ → ℕ → List ℕ → Bool → List ℕ
canonical_udp from to source dest payload summed =
    datagram source dest (if summed then udp_checksum from to source dest payload else 0) payload

-- the octets begin with the four numbers of this UDP header
pub record SpellsUdp (octets : List ℕ) (udp : UdpHeader) : Type 0 where
  pub source : big 2 octets 0 ≡ udp.source
  pub dest : big 2 octets 2 ≡ udp.dest
  pub length : big 2 octets 4 ≡ udp.length
  pub checksum : big 2 octets 6 ≡ udp.checksum
