-- Encapsulated Control Messages: what is spelled is read.
use Rattle.std.proofs.Common.{◌≡◌, ℕ, ◌+◌, true, List, ◌++◌, length, take, drop, Option, Some, None, refl, sym, ap, subst, ◌∙◌}
use Rattle.std.proofs.lemmas.Bool.{le-leb}
use Rattle.octets.specs.Rules.{first_failing}
use Rattle.octets.proofs.RuleLemmas.{first_failing-append}
use Rattle.ip_headers.specs.Ip.{dest_of, packet_len, payload_place, source_of}
use Rattle.ip_headers.specs.declared.addr.Addr.{Addr}
use Rattle.ip_headers.specs.declared.header.IpHeader.{IpHeader}
use Rattle.ip_headers.specs.declared.header.UdpHeader.{UdpHeader}
use Rattle.ip_headers.specs.Udp.{payload_in}
use Rattle.map_messages.specs.Control.{carried_rules, datagram_rules, ecm_rules, ecm_size, inner_header, inner_packet, inner_payload, udp_of, word_rules, Carries, IsEcmAt, SpellsEcm}
use Rattle.map_messages.specs.Plain.{plain_rules, plain_size, IsPlainAt, SpellsPlain}
use Rattle.map_messages.specs.declared.message.Ecm.{Ecm}
use Rattle.map_messages.specs.declared.message.MapReply.{MapReply}
use Rattle.map_messages.specs.declared.message.MapRequest.{MapRequest}
use Rattle.map_messages.specs.declared.plain.Plain.{Plain}
use Rattle.map_messages.specs.declared.plain.Plain.TheVariants.{Request, Reply}
use Rattle.map_messages.proofs.ControlLemmas.{inner_rules, packet_rules}
use Rattle.map_messages.proofs.InnerLaws.{any_base, datagram_passes, header_is, sum_holds, sum_right, udp_is}
use Rattle.map_messages.proofs.PlainLaws.{spelled_plain}

-- an Encapsulated Control Message that obeys the rules, with its value and its octets
pub record ReadEcm (octets : List ℕ) (ecm : Ecm) (left : ℕ) : Type 0 where
  pub pass : (base : ℕ) → first_failing (ecm_rules base octets) ≡ None
  pub value : IsEcmAt octets ecm
  pub end : ecm_size octets + left ≡ length octets

-- what holds of the message that is carried
pub carries_as : (Is Has : Plain → Type 0) → ((plain : Plain) → Is plain → Has plain) → (request : Option MapRequest) (reply : Option MapReply)
    → Carries Is request reply → Carries Has request reply
carries_as Is Has each (Some request) None is = each (Request request) is
carries_as Is Has each None (Some reply) is = each (Reply reply) is
carries_as Is Has each (Some request) (Some reply) is = absurd is
carries_as Is Has each None None is = absurd is

-- a message is carried
pub carries_some : (Is : Plain → Type 0) (request : Option MapRequest) (reply : Option MapReply) → Carries Is request reply → (plain : Plain) × Is plain
carries_some Is (Some request) None is = (Request request, is)
carries_some Is None (Some reply) is = (Reply reply, is)
carries_some Is (Some request) (Some reply) is = absurd is
carries_some Is None None is = absurd is

-- the packet inside, as it is spelled
record Spelled (octets : List ℕ) (ecm : Ecm) (left : ℕ) (s : SpellsEcm octets ecm left) : Type 0 where
  header : s.header ≡ inner_header octets
  packet : s.packet ≡ inner_packet octets
  udp : s.udp ≡ udp_of s.header s.packet
  payload : payload_in s.packet s.udp ≡ inner_payload octets

-- header, packet and UDP header that are spelled are those at their places
spelled_inside : (octets : List ℕ) (ecm : Ecm) (left : ℕ) (s : SpellsEcm octets ecm left) → Spelled octets ecm left s
spelled_inside octets ecm left s =
    let header = header_is 0 (drop 4 octets) s.header s.lawful s.spells_header in
    let packet : s.packet ≡ inner_packet octets = s.exact ∙ ap (λ (h : IpHeader). take (packet_len h) (drop 4 octets)) header in
    let udp = udp_is s.header s.packet s.udp s.place s.spells_udp in
    record {
      header = header;
      packet = packet;
      udp = udp;
      payload = ap (λ (u : UdpHeader). payload_in s.packet u) udp
          ∙ ap (λ (h : IpHeader). payload_in s.packet (udp_of h s.packet)) header
          ∙ ap (λ (p : List ℕ). payload_in p (udp_of (inner_header octets) p)) packet;
    }

-- the rules of what is carried pass
carried_passes : (base : ℕ) (octets : List ℕ) (ecm : Ecm) (left : ℕ) → SpellsEcm octets ecm left → first_failing (carried_rules base (inner_header octets) (inner_packet octets)) ≡ None
unfolding carried_rules
carried_passes base octets ecm left s =
    let i = spelled_inside octets ecm left s in
    let sum : sum_holds (source_of s.header) (dest_of s.header) s.packet s.udp ≡ true =
    subst (λ (to : Addr). sum_holds (source_of s.header) to s.packet s.udp ≡ true) (sym s.dest)
    (subst (λ (from : Addr). sum_holds from ecm.dest s.packet s.udp ≡ true) (sym s.source) (sum_right ecm.source ecm.dest s.packet s.udp s.sum)) in
    let datagram : first_failing (datagram_rules base s.header s.packet) ≡ None =
    datagram_passes base s.header s.packet s.udp i.udp s.protocol s.whole s.long s.fits s.dest_port sum in
    let there : first_failing (datagram_rules base (inner_header octets) (inner_packet octets)) ≡ None =
    subst (λ (p : List ℕ). first_failing (datagram_rules base (inner_header octets) p) ≡ None) i.packet
    (subst (λ (h : IpHeader). first_failing (datagram_rules base h s.packet) ≡ None) i.header datagram) in
    let place = base + payload_place (inner_header octets) + 8 in
    let carried = carries_some (λ plain. SpellsPlain (payload_in s.packet s.udp) plain s.size) ecm.request ecm.reply s.carried in
    let message : first_failing (plain_rules place (inner_payload octets)) ≡ None =
    subst (λ (p : List ℕ). first_failing (plain_rules place p) ≡ None) i.payload
    ((spelled_plain (payload_in s.packet s.udp) carried.0 s.size carried.1).pass place) in
    first_failing-append (datagram_rules base (inner_header octets) (inner_packet octets)) (plain_rules place (inner_payload octets)) there ∙ message

-- the rules of the whole pass
ecm_passes : (base : ℕ) (octets : List ℕ) (ecm : Ecm) (left : ℕ) → SpellsEcm octets ecm left → first_failing (ecm_rules base octets) ≡ None
unfolding ecm_rules
ecm_passes base octets ecm left s =
    let word : first_failing (word_rules base octets) ≡ None = rw (le-leb 4 (length octets) s.head, s.plain) refl in
    let ip : first_failing (packet_rules base octets) ≡ None = any_base 0 (base + 4) (drop 4 octets) s.lawful in
    first_failing-append (word_rules base octets) (packet_rules base octets ++ inner_rules base octets) word
    ∙ first_failing-append (packet_rules base octets) (inner_rules base octets) ip
    ∙ carried_passes (base + 4) octets ecm left s

-- the octets of the whole and what is left over are all octets
ecm_ends : (octets : List ℕ) (ecm : Ecm) (left : ℕ) → SpellsEcm octets ecm left → ecm_size octets + left ≡ length octets
unfolding ecm_size
ecm_ends octets ecm left s =
    let i = spelled_inside octets ecm left s in
    let carried = carries_some (λ plain. SpellsPlain (payload_in s.packet s.udp) plain s.size) ecm.request ecm.reply s.carried in
    let size : plain_size (inner_payload octets) ≡ s.size =
    ap (λ (p : List ℕ). plain_size p) (sym i.payload) ∙ (spelled_plain (payload_in s.packet s.udp) carried.0 s.size carried.1).end in
    let place : payload_place (inner_header octets) ≡ s.udp.at = ap payload_place (sym i.header) ∙ sym s.place in
    ap (λ (n : ℕ). 4 + payload_place (inner_header octets) + 8 + n + left) size ∙ ap (λ (n : ℕ). 4 + n + 8 + s.size + left) place ∙ s.end

-- what is spelled is read
pub spelled_ecm : (octets : List ℕ) (ecm : Ecm) (left : ℕ) → SpellsEcm octets ecm left → ReadEcm octets ecm left
spelled_ecm octets ecm left s =
    let i = spelled_inside octets ecm left s in
    let payload : List ℕ = payload_in s.packet s.udp in
    let port : s.udp.source ≡ (udp_of (inner_header octets) (inner_packet octets)).source =
    ap (λ (u : UdpHeader). u.source) i.udp ∙ ap (λ (h : IpHeader). (udp_of h s.packet).source) i.header
    ∙ ap (λ (p : List ℕ). (udp_of (inner_header octets) p).source) i.packet in
    record {
      pass = λ base. ecm_passes base octets ecm left s;
      value = record {
        message_type = s.message_type;
        source = sym s.source ∙ ap source_of i.header;
        dest = sym s.dest ∙ ap dest_of i.header;
        source_port = sym s.source_port ∙ port;
        carried = carries_as (λ plain. SpellsPlain payload plain s.size) (IsPlainAt (inner_payload octets))
            (λ plain is. subst (λ (p : List ℕ). IsPlainAt p plain) i.payload (spelled_plain payload plain s.size is).value) ecm.request ecm.reply s.carried;
      };
      end = ecm_ends octets ecm left s;
    }
