-- What octets spell is sound: a message has at most 255 records, each of whose numbers have their bits.
use Rattle.std.proofs.Common.{◌≡◌, ℕ, zero, suc, ◌+◌, ◌/◌, ◌%◌, ◌<◌, ◌≤◌, ◌==◌, ◌||◌, ◌&&◌, nat_le, nat_lt, Bool, true, false, cond, List, ◌∷◌, ◌++◌, length, map, drop, Option, Some, None, option_and_then, option_map, option_to_list, Result, Ok, Err, refl, sym, ap, subst, arith, mod-lt}
use Rattle.std.specs.Prelude.{slice_index}
use Rattle.std.specs.List.{list_all}
use Rattle.std.proofs.lemmas.Bool.Decides.{nat_tests}
use Rattle.std.proofs.lemmas.List.{get_or_past, length-map}
use Rattle.std.proofs.lemmas.List.Elements.{All-drop, All-get_or, All-take}
use Rattle.std.proofs.lemmas.Option.{same_Some}
use Rattle.octets.specs.Numbers.{big}
use Rattle.octets.specs.declared.refused.Refused.{Refused}
use Rattle.octets.specs.Rules.{first_failing}
use Rattle.ip_headers.specs.Ip.{dest_of, packet_in, source_of}
use Rattle.ip_headers.specs.Udp.{payload_in}
use Rattle.ip_headers.specs.declared.addr.Addr.{Addr}
use Rattle.ip_headers.specs.declared.header.UdpHeader.{UdpHeader}
use Rattle.capture_io.specs.Frame.{Frame}
use Rattle.capture_io.specs.Link.{ethernet_octets, link_octets, link_vlan, type_place}
use Rattle.capture_io.specs.declared.link.Link.{Link}
use Rattle.capture_io.specs.declared.link.Link.TheVariants.{Ethernet, Raw}
use Rattle.mapping_records.specs.Locator.{locators_at}
use Rattle.mapping_records.specs.Record.{locator_count, locators_place, record_size}
use Rattle.mapping_records.specs.declared.eid.Eid.{Eid}
use Rattle.mapping_records.specs.declared.record.Record.{Record}
use Rattle.map_messages.specs.Control.{inner_header, inner_packet, inner_payload, udp_of}
use Rattle.map_messages.specs.Reply.{mapping_count}
use Rattle.map_messages.specs.Request.{addr_count, addrs_place, asked_eid_size, eid_count, eids_place, record_count, record_place, reply_addr_size, source_at}
use Rattle.map_messages.specs.Words.{bit, is_ecm, is_request, nonce_at}
use Rattle.map_messages.specs.declared.message.Ecm.{Ecm}
use Rattle.map_messages.specs.declared.message.MapReply.{MapReply}
use Rattle.map_messages.specs.declared.message.MapRequest.{MapRequest}
use Rattle.map_messages.specs.declared.message.Message.{Message}
use Rattle.map_messages.specs.declared.message.Message.TheVariants.{Request, Reply, Control as Carried}
use Rattle.lisp_settings.specs.declared.settings.Settings.{Settings}
use Rattle.router_log.specs.declared.verdict.Reason.TheVariants.{NotTunnel}
use Rattle.router_log.specs.declared.verdict.Verdict.{Verdict}
use Rattle.router_log.specs.declared.verdict.Verdict.TheVariants.{Drop, Own}
use Rattle.router_model.specs.Course.{Course, Control, Data, FramePacket, Settled, arriving, by_port, by_udp, course_of, datagram_cases, datagram_read, frame_packet, frame_refusal, leaving, packet_course, unless_refused, unless_settled}
use Rattle.router_model.specs.Hear.{Range, ranges_of}
use Rattle.router_model.specs.Lifting.{AreOctets, IsSoundFrame, entries_in, is_bounded, is_sound_message, requests_in}
use Rattle.router_model.specs.Received.{asked_eid_in, ecm_in, ecm_of_reply, ecm_of_request, eid_prefix_in, head_of, items_in, message_in, record_in, reply_addr_in, reply_in, request_in}
use Rattle.router_model.specs.Site.{instance_of, is_own}

pub octet-at : (octets : List ℕ) (i : ℕ) → AreOctets octets → slice_index octets i < 256
octet-at octets i are = by (nat_lt i (length octets)) refl
  where
    below : nat_lt i (length octets) ≡ true → i < length octets
    below is = grind (arith, nat_tests)

    past : nat_lt i (length octets) ≡ false → length octets ≤ i
    past is = grind (arith, nat_tests)

    by : (b : Bool) → nat_lt i (length octets) ≡ b → slice_index octets i < 256
    by true is = All-get_or (λ octet. octet < 256) octets i 0 (below is) are
    by false is = rw (get_or_past octets i 0 (past is)) (let zero_below : 0 < 256 = omega arith in zero_below)

-- items one behind another
module _ {T : Type 0} (read : List ℕ → Option T) (size : List ℕ → ℕ) (test : T → Bool) (one : (octets : List ℕ) (item : T) → AreOctets octets → read octets ≡ Some item → test item ≡ true) where
  items-pass : (n : ℕ) (octets : List ℕ) (items : List T) → AreOctets octets → items_in read size n octets ≡ Some items → (list_all test items ≡ true) × (length items ≡ n)
  items-pass zero octets items are is = (ap (list_all test) (sym (same_Some _ items is)), ap (λ (l : List T). length l) (sym (same_Some _ items is)))
  items-pass (suc n) octets items are is = by (read octets) refl (items_in read size n (drop (size octets) octets)) refl (λ rest others. items-pass n (drop (size octets) octets) rest (All-drop (λ octet. octet < 256) (size octets) octets are) others) is
    where
      by : (o : Option T) → read octets ≡ o → (p : Option (List T)) → items_in read size n (drop (size octets) octets) ≡ p → ((rest : List T) → items_in read size n (drop (size octets) octets) ≡ Some rest → (list_all test rest ≡ true) × (length rest ≡ n)) → option_and_then (λ item. option_map (λ others. item ∷ others) p) o ≡ Some items → (list_all test items ≡ true) × (length items ≡ suc n)
      by None found p others h is = cc
      by (Some item) found None others h is = cc
      by (Some item) found (Some rest) others h is =
          let all = h rest others in
          let whole = same_Some (item ∷ rest) items is in (
            subst (λ l. list_all test l ≡ true) whole (rw (one octets item are found) all.0),
            subst (λ (l : List T). length l ≡ suc n) whole (ap suc all.1),
          )

number-bounded : (a b : ℕ) → a < 256 → (nat_le (a / 32) 7 && nat_le (b % 4096) 4095) ≡ true
number-bounded a b few = rw (first (a / 32) (omega (arith, few)), second (b % 4096) (mod-lt b (omega arith))) refl
  where
    first : (n : ℕ) → n ≤ 7 → nat_le n 7 ≡ true
    first n is = grind (arith, nat_tests)

    second : (n : ℕ) → n < 4096 → nat_le n 4095 ≡ true
    second n is = grind (arith, nat_tests)

record-bounded : (octets : List ℕ) (mapping : Record) → AreOctets octets → record_in octets ≡ Some mapping → is_bounded mapping ≡ true
record-bounded octets mapping are is = by (eid_prefix_in (drop 10 octets) (slice_index octets 5)) is
  where
    made : Eid → Record
    made eid = record {
      ttl = big 4 octets 0;
      action = slice_index octets 6 / 32;
      authoritative = slice_index octets 6 / 16 % 2 == 1;
      version = big 2 octets 8 % 4096;
      eid = eid;
      locators = locators_at (locator_count octets) (drop (locators_place octets) octets);
    }

    by : (o : Option Eid) → option_and_then (λ eid. Some (made eid)) o ≡ Some mapping → is_bounded mapping ≡ true
    by None is = cc
    by (Some eid) is = subst (λ r. is_bounded r ≡ true) (same_Some (made eid) mapping is) (number-bounded (slice_index octets 6) (big 2 octets 8) (octet-at octets 6 are))

reply-sound : (octets : List ℕ) (reply : MapReply) → AreOctets octets → reply_in octets ≡ Some reply → (list_all is_bounded reply.mappings ≡ true) × (length reply.mappings ≤ 255)
reply-sound octets reply are is = by (items_in record_in record_size (mapping_count octets) (drop 12 octets)) refl is
  where
    made : List Record → MapReply
    made mappings = record { probe = bit 8 (slice_index octets 0); nonce = nonce_at octets; mappings = mappings }

    by : (o : Option (List Record)) → items_in record_in record_size (mapping_count octets) (drop 12 octets) ≡ o → option_and_then (λ mappings. Some (made mappings)) o ≡ Some reply → (list_all is_bounded reply.mappings ≡ true) × (length reply.mappings ≤ 255)
    by None found is = cc
    by (Some mappings) found is =
        let all = items-pass record_in record_size is_bounded record-bounded (mapping_count octets) (drop 12 octets) mappings (All-drop (λ octet. octet < 256) 12 octets are) found in
        let few = octet-at octets 3 are in
        let same = all.1 in
        subst (λ (r : MapReply). (list_all is_bounded r.mappings ≡ true) × (length r.mappings ≤ 255)) (same_Some (made mappings) reply is) (all.0, omega (arith, few, same))

request-few : (octets : List ℕ) (request : MapRequest) → AreOctets octets → request_in octets ≡ Some request → length (ranges_of request) ≤ 256
request-few octets request are is = by (items_in reply_addr_in reply_addr_size (addr_count octets) (drop (addrs_place octets) octets)) (items_in asked_eid_in asked_eid_size (eid_count octets) (drop (eids_place octets) octets)) refl (items_in record_in record_size (record_count octets) (drop (record_place octets) octets)) is
  where
    made : List Addr → List Eid → List Record → MapRequest
    made replies_to eids records = record {
      probe = bit 2 (slice_index octets 0);
      smr = bit 1 (slice_index octets 0);
      invoked = bit 64 (slice_index octets 1);
      nonce = nonce_at octets;
      source = source_at (drop 12 octets);
      replies_to = replies_to;
      eids = eids;
      piggyback = head_of records;
    }

    ranges : (source : Option (ℕ × Addr)) (f : ℕ × Addr → Range) (g : Eid → Range) (eids : List Eid) → length eids ≤ 255 → length (map f (option_to_list source) ++ map g eids) ≤ 256
    ranges None f g eids few = omega (arith, length-map eids g, few)
    ranges (Some source) f g eids few = omega (arith, length-map eids g, few)

    by : (o : Option (List Addr)) (p : Option (List Eid)) → items_in asked_eid_in asked_eid_size (eid_count octets) (drop (eids_place octets) octets) ≡ p → (q : Option (List Record)) → option_and_then (λ replies_to. option_and_then (λ eids. option_and_then (λ records. Some (made replies_to eids records)) q) p) o ≡ Some request → length (ranges_of request) ≤ 256
    by None p found q is = cc
    by (Some replies_to) None found q is = cc
    by (Some replies_to) (Some eids) found None is = cc
    by (Some replies_to) (Some eids) found (Some records) is =
        let all = items-pass asked_eid_in asked_eid_size (λ eid. true) (λ octets eid are is. refl) (eid_count octets) (drop (eids_place octets) octets) eids (All-drop (λ octet. octet < 256) (eids_place octets) octets are) found in
        let few = octet-at octets 3 are in
        let same = all.1 in
        subst (λ (r : MapRequest). length (ranges_of r) ≤ 256) (same_Some (made replies_to eids records) request is) (ranges (source_at (drop 12 octets)) _ _ eids (omega (arith, few, same)))

pub payload-octets : (packet : List ℕ) (udp : UdpHeader) → AreOctets packet → AreOctets (payload_in packet udp)
payload-octets packet udp are = All-take (λ octet. octet < 256) _ _ (All-drop (λ octet. octet < 256) _ packet are)

ecm-few : (octets : List ℕ) (ecm : Ecm) → AreOctets octets → ecm_in octets ≡ Some ecm → requests_in ecm.request ≤ 256
ecm-few octets ecm are is = by (is_request (inner_payload octets)) is
  where
    inner : AreOctets (inner_payload octets)
    inner = payload-octets (inner_packet octets) (udp_of (inner_header octets) (inner_packet octets)) (All-take (λ octet. octet < 256) _ (drop 4 octets) (All-drop (λ octet. octet < 256) 4 octets are))

    asked : (o : Option MapRequest) → request_in (inner_payload octets) ≡ o → option_map (ecm_of_request octets) o ≡ Some ecm → requests_in ecm.request ≤ 256
    asked None found is = cc
    asked (Some request) found is = subst (λ (e : Ecm). requests_in e.request ≤ 256) (same_Some (ecm_of_request octets request) ecm is) (request-few (inner_payload octets) request inner found)

    replied : (o : Option MapReply) → option_map (ecm_of_reply octets) o ≡ Some ecm → requests_in ecm.request ≤ 256
    replied None is = cc
    replied (Some reply) is = subst (λ (e : Ecm). requests_in e.request ≤ 256) (same_Some (ecm_of_reply octets reply) ecm is) (let none : 0 ≤ 256 = omega arith in none)

    by : (b : Bool) → cond b (option_map (ecm_of_request octets) (request_in (inner_payload octets))) (option_map (ecm_of_reply octets) (reply_in (inner_payload octets))) ≡ Some ecm → requests_in ecm.request ≤ 256
    by true is = asked (request_in (inner_payload octets)) refl is
    by false is = replied (reply_in (inner_payload octets)) is

abbrev IsSound : Message → Type 0
IsSound read = (is_sound_message read ≡ true) × (entries_in read ≤ 256)

pub message-sound : (octets : List ℕ) (read : Message) → AreOctets octets → message_in octets ≡ Some read → IsSound read
unfolding message_in
message-sound octets read are is = by (is_ecm octets) (is_request octets) is
  where
    carried : (o : Option Ecm) → ecm_in octets ≡ o → option_map Carried o ≡ Some read → IsSound read
    carried None found is = cc
    carried (Some ecm) found is = subst IsSound (same_Some (Carried ecm) read is) (refl, ecm-few octets ecm are found)

    asked : (o : Option MapRequest) → request_in octets ≡ o → option_map Request o ≡ Some read → IsSound read
    asked None found is = cc
    asked (Some request) found is = subst IsSound (same_Some (Request request) read is) (refl, request-few octets request are found)

    replied : (o : Option MapReply) → reply_in octets ≡ o → option_map Reply o ≡ Some read → IsSound read
    replied None found is = cc
    replied (Some reply) found is =
        let sound = reply-sound octets reply are found in
        let few = sound.1 in
        subst IsSound (same_Some (Reply reply) read is) (sound.0, omega (arith, few))

    by : (b c : Bool) → cond b (option_map Carried (ecm_in octets)) (cond c (option_map Request (request_in octets)) (option_map Reply (reply_in octets))) ≡ Some read → IsSound read
    by true c is = carried (ecm_in octets) refl is
    by false true is = asked (request_in octets) refl is
    by false false is = replied (reply_in octets) refl is

-- ### the packet of a datagram is made of the frame's octets

abbrev pub HasPacket : List ℕ → Course → Type 0
HasPacket octets (Data d) = d.packet.octets ≡ octets
HasPacket octets (Control d) = d.packet.octets ≡ octets
HasPacket octets _ = Unit {0}

port-packet : (packet : FramePacket) (udp : UdpHeader) → HasPacket packet.octets (by_port packet udp)
port-packet packet udp = by (udp.dest == 4341) (udp.dest == 4342 || udp.source == 4342)
  where
    by : (b c : Bool) → HasPacket packet.octets (cond b (Data (record { packet = packet; udp = udp })) (cond c (Control (record { packet = packet; udp = udp })) (Settled (Drop NotTunnel))))
    by true c = refl
    by false true = refl
    by false false = tt

udp-packet : (packet : FramePacket) (answer : Result UdpHeader Refused) → HasPacket packet.octets (by_udp packet answer)
udp-packet packet (Err refused) = tt
udp-packet packet (Ok udp) = port-packet packet udp

settled-packet : (octets : List ℕ) (o : Option Verdict) (c : Course) → HasPacket octets c → HasPacket octets (unless_settled o c)
settled-packet octets None c has = has
settled-packet octets (Some verdict) c has = tt

refused-packet : (octets : List ℕ) (o : Option Refused) (c : Course) → HasPacket octets c → HasPacket octets (unless_refused o c)
refused-packet octets None c has = has
refused-packet octets (Some refused) c has = tt

leaving-packet : (packet : FramePacket) (o : Option ℕ) → HasPacket packet.octets (leaving packet o)
leaving-packet packet None = tt
leaving-packet packet (Some iid) = tt

arriving-packet : (packet : FramePacket) → HasPacket packet.octets (arriving packet)
unfolding arriving
arriving-packet packet =
    settled-packet packet.octets (first_failing (datagram_cases packet.header)) _ (udp-packet packet (datagram_read packet))

packet-packet : (settings : Settings) (vlan : ℕ) (packet : FramePacket) → HasPacket packet.octets (packet_course settings vlan packet)
unfolding packet_course
packet-packet settings vlan packet = by (is_own settings.locators (source_of packet.header)) (is_own settings.locators (dest_of packet.header))
  where
    by : (b c : Bool) → HasPacket packet.octets (cond b (Settled Own) (cond c (arriving packet) (leaving packet (instance_of settings.attachments vlan))))
    by true c = tt
    by false true = arriving-packet packet
    by false false = leaving-packet packet (instance_of settings.attachments vlan)

pub course-packet : (settings : Settings) (frame : Frame) → HasPacket (packet_in (link_octets frame)) (course_of settings frame)
course-packet settings frame =
    refused-packet (packet_in (link_octets frame)) (frame_refusal frame) _ (packet-packet settings (link_vlan frame) (frame_packet frame))

link-octets : (frame : Frame) → AreOctets frame.octets → AreOctets (link_octets frame)
link-octets frame are = by frame.link
  where
    by : (l : Link) → AreOctets (elim l [ Ethernet ↦ ethernet_octets frame.octets | Raw ↦ frame.octets ])
    by Ethernet = All-drop (λ octet. octet < 256) (type_place frame.octets + 2) frame.octets are
    by Raw = are

pub front-octets : (frame : Frame) → AreOctets frame.octets → AreOctets (packet_in (link_octets frame))
front-octets frame are = All-take (λ octet. octet < 256) _ (link_octets frame) (link-octets frame are)

-- each frame of octets is sound
pub frame-sound : (settings : Settings) (frame : Frame) → AreOctets frame.octets → IsSoundFrame settings frame 256
frame-sound settings frame are d read heard is =
    message-sound (payload_in d.packet.octets d.udp) read
    (payload-octets d.packet.octets d.udp (subst AreOctets (sym (subst (HasPacket (packet_in (link_octets frame))) heard (course-packet settings frame))) (front-octets frame are))) is
