-- Encapsulated Control Messages: their parts one after another.
use Rattle.std.proofs.Common.{◌≡◌, ℕ, ◌+◌, Bool, List, ◌++◌, drop, Some, None, refl, sym, ap, subst, ◌∙◌, arith}
use Rattle.octets.specs.Rules.{first_failing}
use Rattle.octets.specs.declared.refused.Refused.{Refused}
use Rattle.octets.proofs.RuleLemmas.{first_failing-append, first_failing-append_refused}
use Rattle.ip_headers.specs.Addr.{width}
use Rattle.ip_headers.specs.Ip.{dest_of, ip_rules, payload_place, source_of}
use Rattle.ip_headers.specs.Packet.{IsPacketOf}
use Rattle.ip_headers.specs.declared.header.IpHeader.{IpHeader}
use Rattle.ip_headers.specs.declared.header.IpHeader.TheVariants.{V4, V6}
use Rattle.ip_headers.specs.declared.packet.IpPacket.{IpPacket}
use Rattle.ip_headers.specs.Udp.{payload_in}
use Rattle.map_messages.specs.Control.{carried_rules, ecm_rules, ecm_size, inner_header, inner_packet, inner_payload, udp_of, word_rules}
use Rattle.map_messages.specs.Plain.{plain_size}

-- the rules behind the word
abbrev pub packet_rules : ℕ → List ℕ → List (Bool × Refused)
packet_rules base octets = ip_rules (base + 4) (drop 4 octets)

-- the rules of what the packet carries
abbrev pub inner_rules : ℕ → List ℕ → List (Bool × Refused)
inner_rules base octets = carried_rules (base + 4) (inner_header octets) (inner_packet octets)

-- the word is refused
pub word_refused : (base : ℕ) (octets : List ℕ) (r : Refused) → first_failing (word_rules base octets) ≡ Some r → first_failing (ecm_rules base octets) ≡ Some r
unfolding ecm_rules
word_refused base octets r some = first_failing-append_refused (word_rules base octets) (packet_rules base octets ++ inner_rules base octets) r some

-- behind the word the packet counts
behind_word : (base : ℕ) (octets : List ℕ) → first_failing (word_rules base octets) ≡ None
    → first_failing (ecm_rules base octets) ≡ first_failing (packet_rules base octets ++ inner_rules base octets)
unfolding ecm_rules
behind_word base octets none = first_failing-append (word_rules base octets) (packet_rules base octets ++ inner_rules base octets) none

-- the header of the packet is refused
pub packet_refused : (base : ℕ) (octets rest : List ℕ) (r : Refused) → first_failing (word_rules base octets) ≡ None → rest ≡ drop 4 octets
    → first_failing (ip_rules (base + 4) rest) ≡ Some r → first_failing (ecm_rules base octets) ≡ Some r
packet_refused base octets rest r none back some =
    behind_word base octets none
    ∙ first_failing-append_refused (packet_rules base octets) (inner_rules base octets) r (ap (λ (d : List ℕ). first_failing (ip_rules (base + 4) d)) (sym back) ∙ some)

-- the packet inside
pub record Inside (base : ℕ) (octets : List ℕ) (packet : IpPacket) : Type 0 where
  pub header : packet.header ≡ inner_header octets
  pub octets_are : packet.octets.now ≡ inner_packet octets
  pub place : packet.base ≡ base + 4
  pub payload : packet.payload_at ≡ payload_place packet.header

-- the packet that was read is the one inside
pub inside : (base : ℕ) (octets rest : List ℕ) (packet : IpPacket) → rest ≡ drop 4 octets → IsPacketOf rest (base + 4) packet → Inside base octets packet
inside base octets rest packet back is =
    let p = subst (λ (d : List ℕ). IsPacketOf d (base + 4) packet) back is in
    record {
      header = p.value;
      octets_are = p.exact;
      place = p.place;
      payload = p.payload;
    }

-- behind the header of the packet what it carries counts
pub behind_packet : (base : ℕ) (octets rest : List ℕ) (packet : IpPacket) → first_failing (word_rules base octets) ≡ None → rest ≡ drop 4 octets
    → first_failing (ip_rules (base + 4) rest) ≡ None → Inside base octets packet
    → first_failing (ecm_rules base octets) ≡ first_failing (carried_rules packet.base packet.header packet.octets.now)
behind_packet base octets rest packet none back pass is =
    behind_word base octets none
    ∙ first_failing-append (packet_rules base octets) (inner_rules base octets) (ap (λ (d : List ℕ). first_failing (ip_rules (base + 4) d)) (sym back) ∙ pass)
    ∙ sym (
    ap (λ (n : ℕ). first_failing (carried_rules n packet.header packet.octets.now)) is.place
    ∙ ap (λ (h : IpHeader). first_failing (carried_rules (base + 4) h packet.octets.now)) is.header
    ∙ ap (λ (os : List ℕ). first_failing (carried_rules (base + 4) (inner_header octets) os)) is.octets_are
    )

-- the octets of the message and of what stands before it
pub ecm_end : (base : ℕ) (octets : List ℕ) (packet : IpPacket) (size : ℕ) → Inside base octets packet
    → size ≡ plain_size (payload_in packet.octets.now (udp_of packet.header packet.octets.now)) → 12 + packet.payload_at + size ≡ ecm_size octets
unfolding ecm_size
ecm_end base octets packet size is size_is =
    let inner : size ≡ plain_size (inner_payload octets) =
    size_is
    ∙ ap (λ (h : IpHeader). plain_size (payload_in packet.octets.now (udp_of h packet.octets.now))) is.header
    ∙ ap (λ (os : List ℕ). plain_size (payload_in os (udp_of (inner_header octets) os))) is.octets_are in
    let place : packet.payload_at ≡ payload_place (inner_header octets) = is.payload ∙ ap payload_place is.header in
    let front : 12 + packet.payload_at + size ≡ 4 + packet.payload_at + 8 + size = omega arith in
    front ∙ ap (λ (n : ℕ). 4 + n + 8 + size) place ∙ ap (λ (n : ℕ). 4 + payload_place (inner_header octets) + 8 + n) inner

-- both addresses of a packet are of one family
pub one_family : (header : IpHeader) → width (source_of header) ≡ width (dest_of header)
one_family (V4 header) = refl
one_family (V6 header) = refl
