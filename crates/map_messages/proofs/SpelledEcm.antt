-- Encapsulated Control Messages: what is read is spelled, and octets hold one.
use Rattle.std.proofs.Common.{◌≡◌, inl, inr, ◌⊎◌, ◌≤◌, ℕ, ◌+◌, ◌-◌, ◌==◌, Bool, true, false, List, [], ◌∷◌, ◌++◌, length, drop, slice_index, eqb, leb, Option, Some, None, refl, sym, ap, subst, ◌∙◌, arith}
use Rattle.std.specs.Prelude.{is_some, not}
use Rattle.std.proofs.Math.Bool.{Bool-set}
use Rattle.std.proofs.lemmas.Bool.{cases_Bool, eqb-true, leb-true, not-true}
use Rattle.std.proofs.lemmas.List.{length-drop, length-take}
use Rattle.octets.specs.Numbers.{big}
use Rattle.octets.specs.Rules.{first_failing}
use Rattle.octets.specs.declared.refused.Refused.{Refused}
use Rattle.octets.specs.declared.refused.Why.TheVariants.{InnerPort, InnerProtocol}
use Rattle.octets.proofs.RuleLemmas.{all_hold}
use Rattle.ip_headers.specs.Ip.{dest_of, is_fragment, packet_len, payload_place, protocol_of, source_of}
use Rattle.ip_headers.specs.Udp.{datagram_in, sum_rules, udp_rules, udp_sum}
use Rattle.ip_headers.specs.declared.addr.Addr.{Addr}
use Rattle.ip_headers.specs.declared.header.IpHeader.{IpHeader}
use Rattle.ip_headers.specs.declared.header.UdpHeader.{UdpHeader}
use Rattle.ip_headers.proofs.CutPacket.{both_hold}
use Rattle.ip_headers.proofs.OneValue.{spelled}
use Rattle.mapping_records.specs.Address.{refused}
use Rattle.mapping_records.proofs.SpelledRecord.{back_passes, front_passes}
use Rattle.map_messages.specs.Control.{carried_rules, datagram_rules, ecm_rules, ecm_size, inner_header, inner_packet, inner_payload, is_datagram, udp_of, word_rules, Carries, IsEcmAt, SpellsEcm}
use Rattle.map_messages.specs.Plain.{plain_rules, plain_size, IsPlainAt, SpellsPlain}
use Rattle.map_messages.specs.Words.{bit, kind}
use Rattle.map_messages.specs.declared.message.Ecm.{Ecm}
use Rattle.map_messages.specs.declared.message.MapReply.{MapReply}
use Rattle.map_messages.specs.declared.message.MapRequest.{MapRequest}
use Rattle.map_messages.specs.declared.plain.Plain.{Plain}
use Rattle.map_messages.specs.declared.plain.Plain.TheVariants.{Request, Reply}
use Rattle.map_messages.proofs.ControlLemmas.{packet_rules}
use Rattle.map_messages.proofs.EcmLaws.{carries_as, carries_some}
use Rattle.map_messages.proofs.InnerLaws.{any_base, sum_holds, udp_at_spells}
use Rattle.map_messages.proofs.PlainLaws.{plain_inside, plain_is_spelled, same_plain, some_plain}

-- what the rules say of a datagram
record DatagramParts (header : IpHeader) (packet : List ℕ) (udp : UdpHeader) : Type 0 where
  protocol : protocol_of header ≡ 17
  whole : is_fragment header ≡ false
  long : 8 ≤ udp.length
  fits : udp.at + udp.length ≤ length packet
  port : udp.dest ≡ 4342
  sum : sum_holds (source_of header) (dest_of header) packet udp ≡ true

-- the rules of a datagram, as facts
datagram_parts : (base : ℕ) (header : IpHeader) (packet : List ℕ) → first_failing (datagram_rules base header packet) ≡ None → DatagramParts header packet (udp_of header packet)
unfolding datagram_rules
datagram_parts base header packet none =
    let at = payload_place header in
    let udp = udp_of header packet in
    let kind_rule : List (Bool × Refused) = (is_datagram header, refused base InnerProtocol) ∷ [] in
    let front : List (Bool × Refused) = udp_rules base at packet in
    let back : List (Bool × Refused) = (udp.dest == 4342, refused (base + (at + 2)) InnerPort) ∷ sum_rules base header packet udp true in
    let first = all_hold kind_rule (front_passes kind_rule (front ++ back) none) in
    let rest = back_passes kind_rule (front ++ back) none in
    let sizes = all_hold front (front_passes front back rest) in
    let ends = all_hold back (back_passes front back rest) in
    let is = both_hold (eqb (protocol_of header) 17) (not (is_fragment header)) first.0 in
    let lengths = both_hold (leb 8 (big 2 packet (at + 4))) (leb (at + big 2 packet (at + 4)) (length packet)) sizes.1.0 in
    record {
      protocol = eqb-true _ _ is.0;
      whole = not-true (is_fragment header) is.1;
      long = leb-true _ _ lengths.0;
      fits = leb-true _ _ lengths.1;
      port = eqb-true _ _ ends.0;
      sum = ends.1.0;
    }

-- what the rules say of an Encapsulated Control Message
record Parts (base : ℕ) (octets : List ℕ) : Type 0 where
  head : 4 ≤ length octets
  plain : bit 8 (slice_index octets 0) ≡ false
  ip : first_failing (packet_rules base octets) ≡ None
  datagram : first_failing (datagram_rules (base + 4) (inner_header octets) (inner_packet octets)) ≡ None
  message : first_failing (plain_rules (base + 4 + payload_place (inner_header octets) + 8) (inner_payload octets)) ≡ None

-- the rules of the whole, as facts
parts : (base : ℕ) (octets : List ℕ) → first_failing (ecm_rules base octets) ≡ None → Parts base octets
unfolding ecm_rules carried_rules
parts base octets none =
    let word : List (Bool × Refused) = word_rules base octets in
    let ip : List (Bool × Refused) = packet_rules base octets in
    let datagram : List (Bool × Refused) = datagram_rules (base + 4) (inner_header octets) (inner_packet octets) in
    let message : List (Bool × Refused) = plain_rules (base + 4 + payload_place (inner_header octets) + 8) (inner_payload octets) in
    let hold = all_hold word (front_passes word (ip ++ (datagram ++ message)) none) in
    let behind_word = back_passes word (ip ++ (datagram ++ message)) none in
    let behind_ip = back_passes ip (datagram ++ message) behind_word in
    record {
      head = leb-true _ _ hold.0;
      plain = not-true (bit 8 (slice_index octets 0)) hold.1.0;
      ip = front_passes ip (datagram ++ message) behind_word;
      datagram = front_passes datagram message behind_ip;
      message = back_passes datagram message behind_ip;
    }

-- the sum is right, or there is none
sum_of : (from to : Addr) (packet : List ℕ) (udp : UdpHeader) → sum_holds from to packet udp ≡ true → (udp.checksum ≡ 0) ⊎ (udp_sum from to (datagram_in packet udp) ≡ 65535)
sum_of from to packet udp holds =
    elim (cases_Bool (eqb udp.checksum 0)) [
      | inl zero ↦ inl (eqb-true _ _ zero)
      | inr some ↦ inr (eqb-true _ _ (rw some at holds))
    ]

-- the octets of the whole end in the octets
ecm_inside : (base : ℕ) (octets : List ℕ) (ecm : Ecm) → Parts base octets → IsEcmAt octets ecm → ecm_size octets ≤ length octets
unfolding ecm_size
ecm_inside base octets ecm p at =
    let header = inner_header octets in
    let packet : List ℕ = inner_packet octets in
    let udp = udp_of header packet in
    let d = datagram_parts (base + 4) header packet p.datagram in
    let place = base + 4 + payload_place header + 8 in
    let payload : List ℕ = inner_payload octets in
    let carried = carries_some (IsPlainAt payload) ecm.request ecm.reply at.carried in
    let inside = plain_inside payload carried.0 (plain_size payload) (plain_is_spelled place payload carried.0 p.message carried.1) in
    omega (
      arith,
      inside,
      d.long,
      d.fits,
      p.head,
      length-take (udp.length - 8) (drop (udp.at + 8) packet),
      length-drop (udp.at + 8) packet,
      length-take (packet_len header) (drop 4 octets),
      length-drop 4 octets,
    )

-- the octets of the whole, opened
ecm_size_is : (octets : List ℕ) → ecm_size octets ≡ 4 + payload_place (inner_header octets) + 8 + plain_size (inner_payload octets)
unfolding ecm_size
ecm_size_is octets = refl

-- what is read is spelled
pub ecm_is_spelled : (base : ℕ) (octets : List ℕ) (ecm : Ecm) → first_failing (ecm_rules base octets) ≡ None → IsEcmAt octets ecm
    → SpellsEcm octets ecm (length octets - ecm_size octets)
ecm_is_spelled base octets ecm none at =
    let p = parts base octets none in
    let header = inner_header octets in
    let packet : List ℕ = inner_packet octets in
    let udp = udp_of header packet in
    let d = datagram_parts (base + 4) header packet p.datagram in
    let place = base + 4 + payload_place header + 8 in
    let payload : List ℕ = inner_payload octets in
    let size = plain_size payload in
    let inside = ecm_inside base octets ecm p at in
    let sum : sum_holds ecm.source ecm.dest packet udp ≡ true =
    subst (λ (to : Addr). sum_holds ecm.source to packet udp ≡ true) (sym at.dest)
    (subst (λ (from : Addr). sum_holds from (dest_of header) packet udp ≡ true) (sym at.source) d.sum) in
    record {
      head = p.head;
      message_type = at.message_type;
      plain = p.plain;
      header = header;
      spells_header = spelled (base + 4) (drop 4 octets) p.ip;
      lawful = any_base (base + 4) 0 (drop 4 octets) p.ip;
      source = sym at.source;
      dest = sym at.dest;
      protocol = d.protocol;
      whole = d.whole;
      packet = packet;
      exact = refl;
      udp = udp;
      place = refl;
      spells_udp = udp_at_spells (payload_place header) packet;
      long = d.long;
      fits = d.fits;
      source_port = sym at.source_port;
      dest_port = d.port;
      sum = sum_of ecm.source ecm.dest packet udp sum;
      size = size;
      carried = carries_as (IsPlainAt payload) (λ plain. SpellsPlain payload plain size) (λ plain is. plain_is_spelled place payload plain p.message is) ecm.request ecm.reply at.carried;
      end = omega (arith, inside, ecm_size_is octets);
    }

-- a message as the one that is carried
with_plain : (octets : List ℕ) → kind octets ≡ 8 → (plain : Plain) → IsPlainAt (inner_payload octets) plain → (ecm : Ecm) × IsEcmAt octets ecm
with_plain octets eight (Request request) is = (
  record {
    source = source_of (inner_header octets);
    dest = dest_of (inner_header octets);
    source_port = (udp_of (inner_header octets) (inner_packet octets)).source;
    request = Some request;
    reply = None;
    one = refl;
  },
  record { message_type = eight; source = refl; dest = refl; source_port = refl; carried = is },
)
with_plain octets eight (Reply reply) is = (
  record {
    source = source_of (inner_header octets);
    dest = dest_of (inner_header octets);
    source_port = (udp_of (inner_header octets) (inner_packet octets)).source;
    request = None;
    reply = Some reply;
    one = refl;
  },
  record { message_type = eight; source = refl; dest = refl; source_port = refl; carried = is },
)

-- an Encapsulated Control Message is there
pub some_ecm : (base : ℕ) (octets : List ℕ) → kind octets ≡ 8 → first_failing (ecm_rules base octets) ≡ None → (ecm : Ecm) × IsEcmAt octets ecm
some_ecm base octets eight none =
    let p = parts base octets none in
    let plain = some_plain (base + 4 + payload_place (inner_header octets) + 8) (inner_payload octets) p.message in
    with_plain octets eight plain.0 plain.1

-- the Map-Request of what is carried
abbrev request_of : Plain → Option MapRequest
request_of (Request request) = Some request
request_of (Reply reply) = None

-- the Map-Reply of what is carried
abbrev reply_of : Plain → Option MapReply
reply_of (Request request) = None
reply_of (Reply reply) = Some reply

-- the one message that is carried
record Held (Is : Plain → Type 0) (request : Option MapRequest) (reply : Option MapReply) : Type 0 where
  plain : Plain
  is : Is plain
  asks : request ≡ request_of plain
  answers : reply ≡ reply_of plain

-- what is carried is one message
held : (Is : Plain → Type 0) (request : Option MapRequest) (reply : Option MapReply) → Carries Is request reply → Held Is request reply
held Is (Some request) None is = record { plain = Request request; is = is; asks = refl; answers = refl }
held Is None (Some reply) is = record { plain = Reply reply; is = is; asks = refl; answers = refl }
held Is (Some request) (Some reply) is = absurd is
held Is None None is = absurd is

-- an Encapsulated Control Message of its fields
abbrev made : (source dest : Addr) (port : ℕ) (request : Option MapRequest) (reply : Option MapReply) → is_some request ≡ not (is_some reply) → Ecm
made source dest port request reply one = record { source = source; dest = dest; source_port = port; request = request; reply = reply; one = one }

-- those that carry the same are the same
same_parts : (source dest : Addr) (port : ℕ) (request q : Option MapRequest) (reply r : Option MapReply) (one : is_some request ≡ not (is_some reply))
    → request ≡ q → reply ≡ r → (other : is_some q ≡ not (is_some r)) → made source dest port request reply one ≡ made source dest port q r other
same_parts source dest port request q reply r one request_is reply_is =
    let first : (other : is_some request ≡ not (is_some r)) → made source dest port request reply one ≡ made source dest port request r other =
    subst (λ (x : Option MapReply). (other : is_some request ≡ not (is_some x)) → made source dest port request reply one ≡ made source dest port request x other) reply_is
    (λ other. ap (made source dest port request reply) (Bool-set _ _ one other)) in
    subst (λ (x : Option MapRequest). (other : is_some x ≡ not (is_some r)) → made source dest port request reply one ≡ made source dest port x r other) request_is first

-- the Encapsulated Control Message at the front is one
pub same_ecm : (octets : List ℕ) (a b : Ecm) → IsEcmAt octets a → IsEcmAt octets b → a ≡ b
same_ecm octets a b s t =
    let Is : Plain → Type 0 = IsPlainAt (inner_payload octets) in
    let x = held Is a.request a.reply s.carried in
    let y = held Is b.request b.reply t.carried in
    let plain : x.plain ≡ y.plain = same_plain (inner_payload octets) x.plain y.plain x.is y.is in
    let requests : a.request ≡ b.request = x.asks ∙ ap request_of plain ∙ sym y.asks in
    let replies : a.reply ≡ b.reply = x.answers ∙ ap reply_of plain ∙ sym y.answers in
    same_parts a.source a.dest a.source_port a.request b.request a.reply b.reply a.one requests replies b.one
    ∙ ap (λ (from : Addr). made from a.dest a.source_port b.request b.reply b.one) (s.source ∙ sym t.source)
    ∙ ap (λ (to : Addr). made b.source to a.source_port b.request b.reply b.one) (s.dest ∙ sym t.dest)
    ∙ ap (λ (port : ℕ). made b.source b.dest port b.request b.reply b.one) (s.source_port ∙ sym t.source_port)
