-- Encapsulated Control Messages that were written spell what was written.
use Rattle.std.proofs.Common.{◌≡◌, inr, ◌≤◌, ◌<◌, ◌^◌, ℕ, ◌+◌, ◌-◌, true, false, List, [], ◌++◌, length, take, drop, eqb, Option, Some, None, All, IfSome, refl, sym, ap, subst, ◌∙◌, append_assoc, arith}
use Rattle.std.specs.Prelude.{is_some, not}
use Rattle.std.proofs.Math.Seq.{drop-append-add, take-append_seam, take-length}
use Rattle.std.proofs.lemmas.List.{append-nil, drop_at, length-append}
use Rattle.octets.specs.Numbers.{big}
use Rattle.octets.specs.Rules.{first_failing}
use Rattle.ip_headers.specs.Addr.{width, IsAddr}
use Rattle.ip_headers.specs.Canonical.{canonical_v4, canonical_v6, InRangeV4, InRangeV6}
use Rattle.ip_headers.specs.Ip.{dest_of, ip_rules, is_fragment, is_v6, packet_len, payload_place, protocol_of, source_of, Spells}
use Rattle.ip_headers.specs.Udp.{canonical_udp, datagram_in, payload_in, udp_at, udp_checksum, udp_sum, SpellsUdp}
use Rattle.ip_headers.specs.declared.addr.Addr.{Addr}
use Rattle.ip_headers.specs.declared.addr.Addr.TheVariants as family
use Rattle.ip_headers.specs.declared.header.IpHeader.{IpHeader}
use Rattle.ip_headers.specs.declared.header.IpHeader.TheVariants.{V4, V6}
use Rattle.ip_headers.specs.declared.header.UdpHeader.{UdpHeader}
use Rattle.ip_headers.specs.declared.header.V4Header.{V4Header}
use Rattle.ip_headers.specs.declared.header.V6Header.{V6Header}
use Rattle.ip_headers.proofs.CutPacket.{v4_rules, v6_rules, V4Facts, V6Facts}
use Rattle.ip_headers.proofs.DatagramLemmas.{length-datagram}
use Rattle.ip_headers.proofs.OneValue.{spelled}
use Rattle.ip_headers.proofs.ReadAgain.{header_at-canonical_v4, header_at-canonical_v6}
use Rattle.ip_headers.proofs.Spelled.{ones_sum-canonical_v4, read_back, version-canonical_v6}
use Rattle.ip_headers.proofs.UdpReadAgain.{udp_at-canonical, udp_sum-canonical}
use Rattle.map_messages.specs.Control.{canonical_carried, canonical_ecm, control_header, control_packet, control_v4, control_v6, Carries, SpellsEcm}
use Rattle.map_messages.specs.Limits.{most_message_octets}
use Rattle.map_messages.specs.Plain.{SpellsPlain}
use Rattle.map_messages.specs.Range.{IsLawfulEcm, IsLawfulReply, IsLawfulRequest}
use Rattle.map_messages.specs.Reply.{canonical_reply, SpellsReply}
use Rattle.map_messages.specs.Request.{canonical_request, SpellsRequest}
use Rattle.map_messages.specs.declared.message.Ecm.{Ecm}
use Rattle.map_messages.specs.declared.message.MapReply.{MapReply}
use Rattle.map_messages.specs.declared.message.MapRequest.{MapRequest}
use Rattle.map_messages.proofs.InnerLaws.{udp_at_spells}
use Rattle.map_messages.proofs.OctetLemmas.{reply_octets, request_octets}
use Rattle.map_messages.proofs.ReplyLaws.{reply_spells}
use Rattle.map_messages.proofs.WrittenRequest.{request_spells}

-- an IP header in front of at least the octets that it names
record Headed (header : IpHeader) (canonical rest : List ℕ) : Type 0 where
  pub lawful : first_failing (ip_rules 0 (canonical ++ rest)) ≡ None
  pub spells : Spells (canonical ++ rest) header

-- an IPv4 header
v4_heads : (h : V4Header) (rest : List ℕ) → InRangeV4 h → 20 ≤ h.total → h.total ≤ 20 + length rest → Headed (V4 h) (canonical_v4 h) rest
v4_heads h rest range least fits =
    let octets = canonical_v4 h ++ rest in
    let len : length octets ≡ 20 + length rest = omega arith in
    let total : big 2 octets 2 ≡ h.total = read_back 2 h.total [] range.total in
    let facts : V4Facts octets = record {
      six = refl;
      long = omega (arith, len);
      words = omega arith;
      inside = omega (arith, total, least);
      total = omega (arith, total, fits, len);
      sum = ap (λ (n : ℕ). eqb n 65535) (ones_sum-canonical_v4 h range);
    } in
    let lawful = v4_rules 0 octets refl facts in
    record { lawful = lawful; spells = subst (λ (header : IpHeader). Spells octets header) (header_at-canonical_v4 h rest range) (spelled 0 octets lawful) }

-- an IPv6 header
v6_heads : (h : V6Header) (rest : List ℕ) → InRangeV6 h → h.payload ≤ length rest → Headed (V6 h) (canonical_v6 h) rest
v6_heads h rest range fits =
    let octets = canonical_v6 h ++ rest in
    let len : length octets ≡ 40 + length rest = omega arith in
    let payload : big 2 octets 4 ≡ h.payload = read_back 2 h.payload [] range.payload in
    let version = version-canonical_v6 h rest range in
    let six : is_v6 octets ≡ true = ap (λ (v : ℕ). eqb v 6) version in
    let facts : V6Facts octets = record {
      four = ap (λ (v : ℕ). eqb v 4) version;
      long = omega (arith, len);
      total = omega (arith, payload, fits, len);
    } in
    let lawful = v6_rules 0 octets six facts in
    record { lawful = lawful; spells = subst (λ (header : IpHeader). Spells octets header) (header_at-canonical_v6 h rest range) (spelled 0 octets lawful) }

-- the header of a control packet in front of its datagram
record ControlHeader (from to : Addr) (size : ℕ) (rest : List ℕ) : Type 0 where
  header : IpHeader
  headed : Headed header (control_header from to size) rest
  source : source_of header ≡ from
  dest : dest_of header ≡ to
  protocol : protocol_of header ≡ 17
  whole : is_fragment header ≡ false
  place : length (control_header from to size) ≡ payload_place header
  exact : packet_len header ≡ length (control_header from to size) + size

-- the header that is written
made_header : (from to : Addr) (size : ℕ) (rest : List ℕ) → width from ≡ width to → IsAddr from → IsAddr to → size ≤ most_message_octets → size ≤ length rest → ControlHeader from to size rest
unfolding control_header
made_header (family.V4 a) (family.V4 b) size rest same from to short fits =
    let h = control_v4 a b size in
    let range : InRangeV4 h = record {
      source = from;
      dest = to;
      tos = omega arith;
      total = omega (arith, short);
      id = omega arith;
      offset = omega arith;
      ttl = omega arith;
      protocol = omega arith;
      plain = refl;
    } in
    record {
      header = V4 h;
      headed = v4_heads h rest range (omega arith) (omega (arith, fits));
      source = refl;
      dest = refl;
      protocol = refl;
      whole = refl;
      place = refl;
      exact = refl;
    }
made_header (family.V6 a) (family.V6 b) size rest same from to short fits =
    let h = control_v6 a b size in
    let range : InRangeV6 h = record {
      source = from;
      dest = to;
      class = omega arith;
      flow = omega arith;
      payload = omega (arith, short);
      next = omega arith;
      hops = omega arith;
    } in
    record {
      header = V6 h;
      headed = v6_heads h rest range fits;
      source = refl;
      dest = refl;
      protocol = refl;
      whole = refl;
      place = refl;
      exact = omega arith;
    }
made_header (family.V4 a) (family.V6 b) size rest same from to short fits = absurd (omega (arith, same))
made_header (family.V6 a) (family.V4 b) size rest same from to short fits = absurd (omega (arith, same))

-- the datagram behind a header
abbrev datagram_of : Addr → Addr → ℕ → List ℕ → List ℕ
datagram_of from to port payload = canonical_udp from to port 4342 payload true

-- its UDP header
abbrev header_of : Addr → Addr → ℕ → List ℕ → ℕ → UdpHeader
header_of from to port payload at =
    record { source = port; dest = 4342; length = 8 + length payload; checksum = udp_checksum from to port 4342 payload; at = at }

-- the datagram spells its UDP header
datagram_spells : (from to : Addr) (port : ℕ) (payload front : List ℕ) → port < 2 ^ 16 → 8 + length payload < 2 ^ 16
    → SpellsUdp (drop (length front) (front ++ datagram_of from to port payload)) (header_of from to port payload (length front))
datagram_spells from to port payload front fits short =
    let datagram : List ℕ = datagram_of from to port payload in
    let is : udp_at (length front) (front ++ (datagram ++ [])) ≡ header_of from to port payload (length front) =
    udp_at-canonical from to port 4342 payload true front [] fits (omega arith) short in
    let at : udp_at (length front) (front ++ datagram) ≡ header_of from to port payload (length front) =
    ap (λ (d : List ℕ). udp_at (length front) (front ++ d)) (sym (append-nil datagram)) ∙ is in
    subst (λ (u : UdpHeader). SpellsUdp (drop (length front) (front ++ datagram)) u) at (udp_at_spells (length front) (front ++ datagram))

-- the message that is carried, in its own octets
carried_spells : (request : Option MapRequest) (reply : Option MapReply) → is_some request ≡ not (is_some reply) → IfSome request IsLawfulRequest → IfSome reply IsLawfulReply
    → Carries (λ plain. SpellsPlain (canonical_carried request reply) plain (length (canonical_carried request reply))) request reply
carried_spells (Some request) None one asks answers =
    subst (λ (d : List ℕ). SpellsRequest d request (length (canonical_request request))) (append-nil (canonical_request request)) (request_spells request [] asks)
carried_spells None (Some reply) one asks answers =
    subst (λ (d : List ℕ). SpellsReply d reply (length (canonical_reply reply))) (append-nil (canonical_reply reply)) (reply_spells reply [] answers)
carried_spells (Some request) (Some reply) one asks answers = cc
carried_spells None None one asks answers = cc

-- the octets of what is carried are below 256
carried_octets : (request : Option MapRequest) (reply : Option MapReply) → IfSome request IsLawfulRequest → IfSome reply IsLawfulReply
    → All (λ octet. octet < 256) (canonical_carried request reply)
carried_octets (Some request) reply asks answers = request_octets request asks
carried_octets None (Some reply) asks answers = reply_octets reply answers
carried_octets None None asks answers = λ k d below. absurd (omega arith)

-- what is written is spelled
pub ecm_spells : (ecm : Ecm) (rest : List ℕ) → IsLawfulEcm ecm → length (canonical_ecm ecm) ≤ most_message_octets → SpellsEcm (canonical_ecm ecm ++ rest) ecm (length rest)
unfolding control_packet
ecm_spells ecm rest lawful short =
    let from = ecm.source in
    let to = ecm.dest in
    let port = ecm.source_port in
    let payload : List ℕ = canonical_carried ecm.request ecm.reply in
    let size = 8 + length payload in
    let front : List ℕ = control_header from to size in
    let datagram : List ℕ = datagram_of from to port payload in
    let packet : List ℕ = front ++ datagram in
    let size_is : length datagram ≡ size = length-datagram port 4342 (udp_checksum from to port 4342 payload) payload in
    let whole : length packet ≡ length front + size = length-append front datagram ∙ ap (λ (n : ℕ). length front + n) size_is in
    let small : size ≤ most_message_octets = omega (arith, short, whole) in
    let h = made_header from to size (datagram ++ rest) lawful.range.family lawful.source lawful.dest small (omega (arith, length-append datagram rest, size_is)) in
    let split : packet ++ rest ≡ front ++ (datagram ++ rest) = append_assoc front datagram rest in
    let udp = header_of from to port payload (length front) in
    let in_packet : datagram_in packet udp ≡ datagram =
    ap (λ (d : List ℕ). take size d) (drop_at front datagram (length front) refl) ∙ ap (λ (n : ℕ). take n datagram) (sym size_is) ∙ take-length datagram in
    let less : size - 8 ≡ length payload = omega arith in
    let payload_is : payload_in packet udp ≡ payload =
    ap (λ (d : List ℕ). take (size - 8) d) (drop-append-add front datagram 8) ∙ ap (λ (n : ℕ). take n payload) less ∙ take-length payload in
    record {
      head = omega arith;
      message_type = refl;
      plain = refl;
      header = h.header;
      spells_header = subst (λ (d : List ℕ). Spells d h.header) (sym split) h.headed.spells;
      lawful = subst (λ (d : List ℕ). first_failing (ip_rules 0 d) ≡ None) (sym split) h.headed.lawful;
      source = h.source;
      dest = h.dest;
      protocol = h.protocol;
      whole = h.whole;
      packet = packet;
      exact = sym (ap (λ (n : ℕ). take n (packet ++ rest)) (h.exact ∙ sym whole) ∙ take-append_seam packet rest);
      udp = udp;
      place = h.place;
      spells_udp = datagram_spells from to port payload front lawful.source_port (omega (arith, small));
      long = omega arith;
      fits = omega (arith, whole);
      source_port = refl;
      dest_port = refl;
      sum = inr (ap (λ (d : List ℕ). udp_sum from to d) in_packet ∙ udp_sum-canonical from to port 4342 payload (carried_octets ecm.request ecm.reply lawful.request lawful.reply));
      size = length payload;
      carried = subst (λ (p : List ℕ). Carries (λ plain. SpellsPlain p plain (length payload)) ecm.request ecm.reply) (sym payload_is)
          (carried_spells ecm.request ecm.reply ecm.one lawful.request lawful.reply);
      end = omega (arith, whole, length-append packet rest);
    }
