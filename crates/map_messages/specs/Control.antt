-- Encapsulated Control Messages, RFC 9301 section 5.8.
use Rattle.std.specs.Prelude.{◌≡◌, ◌⊎◌, ℕ, ◌+◌, ◌≤◌, ◌==◌, ◌&&◌, nat_le, not, Bool, true, false, List, [], ◌∷◌, ◌++◌, length, take, drop, slice_index, Option, Some, None}
use Rattle.octets.specs.Rules.{first_failing}
use Rattle.octets.specs.declared.refused.Refused.{Refused}
use Rattle.octets.specs.declared.refused.Why.TheVariants.{Short, Authenticated, InnerProtocol, InnerPort}
use Rattle.ip_headers.specs.Addr.{number}
use Rattle.ip_headers.specs.Canonical.{canonical_v4, canonical_v6}
use Rattle.ip_headers.specs.Ip.{dest_of, header_at, ip_rules, is_fragment, packet_in, packet_len, payload_place, protocol_of, source_of, Spells}
use Rattle.ip_headers.specs.Udp.{canonical_udp, datagram_in, payload_in, sum_rules, udp_at, udp_rules, udp_sum, SpellsUdp}
use Rattle.ip_headers.specs.declared.addr.Addr.{Addr}
use Rattle.ip_headers.specs.declared.addr.Addr.TheVariants.{V4, V6}
use Rattle.ip_headers.specs.declared.header.IpHeader.{IpHeader}
use Rattle.ip_headers.specs.declared.header.UdpHeader.{UdpHeader}
use Rattle.ip_headers.specs.declared.header.V4Header.{V4Header}
use Rattle.ip_headers.specs.declared.header.V6Header.{V6Header}
use Rattle.mapping_records.specs.Address.{refused}
use Rattle.map_messages.specs.Limits.{control_hops}
use Rattle.map_messages.specs.Words.{bit, kind}
use Rattle.map_messages.specs.Plain.{canonical_plain, plain_rules, plain_size, IsPlainAt, SpellsPlain}
use Rattle.map_messages.specs.declared.message.Ecm.{Ecm}
use Rattle.map_messages.specs.declared.message.MapReply.{MapReply}
use Rattle.map_messages.specs.declared.message.MapRequest.{MapRequest}
use Rattle.map_messages.specs.declared.plain.Plain.{Plain}
use Rattle.map_messages.specs.declared.plain.Plain.TheVariants.{Request, Reply}

-- the rules of the word in front of the packet: it is there, and its bit S, which would add authentication, is clear
abbrev pub word_rules : ℕ → List ℕ → List (Bool × Refused)
word_rules base octets =
    (nat_le 4 (length octets), refused base Short)
    ∷ (not (bit 8 (slice_index octets 0)), refused base Authenticated)
    ∷ []

-- whether a packet is a whole UDP datagram
abbrev pub is_datagram : IpHeader → Bool
is_datagram header = (protocol_of header == 17) && not (is_fragment header)

-- the UDP header of a packet
abbrev pub udp_of : IpHeader → List ℕ → UdpHeader
udp_of header packet = udp_at (payload_place header) packet

-- the rules of the datagram in a packet: to the port of control messages, its checksum right or 0
unfoldable pub datagram_rules : ℕ → IpHeader → List ℕ → List (Bool × Refused)
datagram_rules base header packet =
    let at = payload_place header in
    (is_datagram header, refused base InnerProtocol)
    ∷ (udp_rules base at packet
    ++ ((udp_of header packet).dest == 4342, refused (base + (at + 2)) InnerPort)
    ∷ sum_rules base header packet (udp_of header packet) true)

-- the rules of a packet's datagram and of the message in it
unfoldable pub carried_rules : ℕ → IpHeader → List ℕ → List (Bool × Refused)
carried_rules base header packet =
    datagram_rules base header packet
    ++ plain_rules (base + payload_place header + 8) (payload_in packet (udp_of header packet))

-- the header of the packet inside
abbrev pub inner_header : List ℕ → IpHeader
inner_header octets = header_at (drop 4 octets)

-- the packet inside, without what follows it
abbrev pub inner_packet : List ℕ → List ℕ
inner_packet octets = packet_in (drop 4 octets)

-- the payload of the datagram inside, behind its UDP header
abbrev pub inner_payload : List ℕ → List ℕ
inner_payload octets =
    payload_in (inner_packet octets) (udp_of (inner_header octets) (inner_packet octets))

-- the rules of an Encapsulated Control Message
unfoldable pub ecm_rules : ℕ → List ℕ → List (Bool × Refused)
ecm_rules base octets =
    word_rules base octets
    ++ (ip_rules (base + 4) (drop 4 octets)
    ++ carried_rules (base + 4) (inner_header octets) (inner_packet octets))

-- the octets of an Encapsulated Control Message: the word, the IP header, the UDP header and the message
unfoldable pub ecm_size : List ℕ → ℕ
ecm_size octets = 4 + payload_place (inner_header octets) + 8 + plain_size (inner_payload octets)

-- a fact of the message that is carried: exactly one of Map-Request and Map-Reply is there, and the fact holds of it
abbrev pub Carries : (Plain → Type 0) → Option MapRequest → Option MapReply → Type 0
Carries Is (Some request) None = Is (Request request)
Carries Is None (Some reply) = Is (Reply reply)
Carries Is (Some request) (Some reply) = ⊥
Carries Is None None = ⊥

-- the Encapsulated Control Message at the front of the octets
pub record IsEcmAt (octets : List ℕ) (ecm : Ecm) : Type 0 where
  pub message_type : kind octets ≡ 8
  pub source : ecm.source ≡ source_of (inner_header octets)
  pub dest : ecm.dest ≡ dest_of (inner_header octets)
  pub source_port : ecm.source_port ≡ (udp_of (inner_header octets) (inner_packet octets)).source
  pub carried : Carries (IsPlainAt (inner_payload octets)) ecm.request ecm.reply

-- the octets spell this Encapsulated Control Message, with so many left over behind its layers
pub record SpellsEcm (octets : List ℕ) (ecm : Ecm) (left : ℕ) : Type 0 where
  pub head : 4 ≤ length octets
  pub message_type : kind octets ≡ 8
  pub plain : bit 8 (slice_index octets 0) ≡ false
  pub header : IpHeader
  pub spells_header : Spells (drop 4 octets) header
  pub lawful : first_failing (ip_rules 0 (drop 4 octets)) ≡ None
  pub source : source_of header ≡ ecm.source
  pub dest : dest_of header ≡ ecm.dest
  pub protocol : protocol_of header ≡ 17
  pub whole : is_fragment header ≡ false
  pub packet : List ℕ
  pub exact : packet ≡ take (packet_len header) (drop 4 octets)
  pub udp : UdpHeader
  pub place : udp.at ≡ payload_place header
  pub spells_udp : SpellsUdp (drop udp.at packet) udp
  pub long : 8 ≤ udp.length
  pub fits : udp.at + udp.length ≤ length packet
  pub source_port : udp.source ≡ ecm.source_port
  pub dest_port : udp.dest ≡ 4342
  pub sum : (udp.checksum ≡ 0) ⊎ (udp_sum ecm.source ecm.dest (datagram_in packet udp) ≡ 65535)
  pub size : ℕ
  pub carried : Carries (λ plain. SpellsPlain (payload_in packet udp) plain size)
      ecm.request ecm.reply
  pub end : 4 + udp.at + 8 + size + left ≡ length octets

-- the IPv4 header of a control packet with so many octets behind it (this router's choice)
abbrev pub control_v4 : ℕ → ℕ → ℕ → V4Header
control_v4 source dest size = record {
  source = source;
  dest = dest;
  tos = 0;
  total = 20 + size;
  id = 0;
  dont_fragment = true;
  more = false;
  offset = 0;
  ttl = control_hops;
  protocol = 17;
  header_len = 20;
}

-- the IPv6 header of a control packet with so many octets behind it (this router's choice)
abbrev pub control_v6 : ℕ → ℕ → ℕ → V6Header
control_v6 source dest size =
    record {
      source = source;
      dest = dest;
      class = 0;
      flow = 0;
      payload = size;
      next = 17;
      hops = control_hops;
    }

-- the IP header of a control packet between addresses of one family
unfoldable pub control_header : Addr → Addr → ℕ → List ℕ
control_header (V4 source) to size = canonical_v4 (control_v4 source (number to) size)
control_header (V6 source) to size = canonical_v6 (control_v6 source (number to) size)

-- the octets of a message in its control packet, with a computed UDP checksum
unfoldable pub control_packet : Addr → Addr → ℕ → List ℕ → List ℕ
control_packet from to port payload =
    control_header from to (8 + length payload) ++ canonical_udp from to port 4342 payload true

-- the octets of the message that is carried
abbrev pub canonical_carried : Option MapRequest → Option MapReply → List ℕ
canonical_carried (Some request) reply = canonical_plain (Request request)
canonical_carried None (Some reply) = canonical_plain (Reply reply)
canonical_carried None None = []

-- the one spelling of an Encapsulated Control Message
abbrev pub canonical_ecm : Ecm → List ℕ
canonical_ecm ecm =
    128 ∷ 0 ∷ 0 ∷ 0
    ∷ control_packet ecm.source ecm.dest ecm.source_port (canonical_carried ecm.request ecm.reply)
