-- The first rule by which a datagram carries no control message.
use Rattle.std.proofs.Common.{◌≡◌, ◌≢◌, ◌≤◌, ◌<◌, ◌^◌, ℕ, ◌+◌, ◌-◌, ◌==◌, true, List, ◌∷◌, Option, Some, None, Result, Ok, Err, IfOk, length, drop, refl, sym, ap, subst, ◌∙◌, arith, length-drop}
use Rattle.std.proofs.lemmas.Bool.{eq-eqb, ne_eqb}
use Rattle.std.proofs.lemmas.List.{length-take}
use Rattle.octets.specs.Rules.{first_failing}
use Rattle.octets.specs.declared.refused.Refused.{Refused}
use Rattle.octets.specs.declared.refused.Why.TheVariants.{InnerPort}
use Rattle.octets.proofs.RuleLemmas.{first_failing-append, first_failing-append_refused}
use Rattle.ip_headers.specs.Ip.{payload_place}
use Rattle.ip_headers.specs.Udp.{answer_of, payload_in, sum_rules, udp_at, udp_checksum_rules, udp_read, udp_rules}
use Rattle.ip_headers.specs.declared.header.UdpHeader.{UdpHeader}
use Rattle.ip_headers.specs.declared.packet.IpPacket.{IpPacket}
use Rattle.ip_headers.proofs.UdpLemmas.{udp_read-within}
use Rattle.mapping_records.specs.Address.{refused}
use Rattle.map_messages.specs.Control.{carried_rules, datagram_rules, is_datagram, udp_of}
use Rattle.map_messages.specs.Plain.{plain_rules}
use Rattle.map_messages.specs.declared.message.Ecm.{Ecm}
use Rattle.mapping_records.specs.declared.fault.RecordFault.{RecordFault}

-- a reader that answers a value met no refusal
no_refusal : {T : Type 0} (refusal : Option Refused) (value given : T) → answer_of refusal value ≡ Ok given → refusal ≡ None
no_refusal None value given ok = refl
no_refusal (Some refused) value given ok = cc

-- the header that was read is that of the packet
pub same_udp : (packet : IpPacket) (udp : UdpHeader) → udp_read packet ≡ Ok udp → udp ≡ udp_of packet.header packet.octets.now
same_udp packet udp read =
    (udp_read-within packet udp read).value ∙ ap (λ (at : ℕ). udp_at at packet.octets.now) packet.place

-- behind the rules of UDP
behind_udp : (packet : IpPacket) (udp : UdpHeader) → is_datagram packet.header ≡ true → udp_read packet ≡ Ok udp
    → first_failing (datagram_rules packet.base packet.header packet.octets.now)
    ≡ first_failing ((udp.dest == 4342, refused (packet.base + (udp.at + 2)) InnerPort) ∷ udp_checksum_rules packet udp true)
unfolding datagram_rules
behind_udp packet udp is read =
    let octets : List ℕ = packet.octets.now in
    let at = payload_place packet.header in
    let header = packet.header in
    let there = udp_of header octets in
    let none : first_failing (udp_rules packet.base at octets) ≡ None =
    subst (λ (n : ℕ). first_failing (udp_rules packet.base n octets) ≡ None) packet.place
    (no_refusal (first_failing (udp_rules packet.base packet.payload_at octets)) (udp_at packet.payload_at octets) udp read) in
    rw is (
    first_failing-append (udp_rules packet.base at octets) ((there.dest == 4342, refused (packet.base + (at + 2)) InnerPort) ∷ sum_rules packet.base header octets there true) none
    ∙ ap (λ (u : UdpHeader). first_failing ((u.dest == 4342, refused (packet.base + (u.at + 2)) InnerPort) ∷ sum_rules packet.base header octets u true)) (sym (same_udp packet udp read))
    )

-- the datagram goes to another port
pub other_port : (packet : IpPacket) (udp : UdpHeader) → is_datagram packet.header ≡ true → udp_read packet ≡ Ok udp → udp.dest ≢ 4342
    → first_failing (datagram_rules packet.base packet.header packet.octets.now) ≡ Some (refused (packet.base + (udp.at + 2)) InnerPort)
other_port packet udp is read other =
    behind_udp packet udp is read ∙ rw (ne_eqb udp.dest 4342 other) refl

-- behind the port
pub sum_counts : (packet : IpPacket) (udp : UdpHeader) → is_datagram packet.header ≡ true → udp_read packet ≡ Ok udp → udp.dest ≡ 4342
    → first_failing (datagram_rules packet.base packet.header packet.octets.now) ≡ first_failing (udp_checksum_rules packet udp true)
sum_counts packet udp is read port =
    behind_udp packet udp is read ∙ rw (eq-eqb udp.dest 4342 port) refl

-- the payload lies in the packet, and its places are numbers of 32 bits
pub payload_room : (packet : IpPacket) (udp : UdpHeader) → udp_read packet ≡ Ok udp
    → packet.base + udp.at + 8 + length (payload_in packet.octets.now udp) < 2 ^ 32
payload_room packet udp read =
    let within = udp_read-within packet udp read in
    let rest : List ℕ = drop (udp.at + 8) packet.octets.now in
    omega (arith, within.whole, within.least, packet.room, length-take (udp.length - 8) rest, length-drop (udp.at + 8) packet.octets.now)

-- the payload that was taken is that of the packet
pub payload_is : (packet : IpPacket) (udp : UdpHeader) (payload : List ℕ) → udp_read packet ≡ Ok udp → payload ≡ payload_in packet.octets.now udp
    → payload ≡ payload_in packet.octets.now (udp_of packet.header packet.octets.now)
payload_is packet udp payload read is = is ∙ ap (λ (u : UdpHeader). payload_in packet.octets.now u) (same_udp packet udp read)

-- the message ends in the packet
pub message_inside : (packet : IpPacket) (udp : UdpHeader) (payload : List ℕ) (size : ℕ) → udp_read packet ≡ Ok udp → payload ≡ payload_in packet.octets.now udp
    → size ≤ length payload → payload_place packet.header + 8 + size ≤ length packet.octets.now
message_inside packet udp payload size read is inside =
    let within = udp_read-within packet udp read in
    let rest : List ℕ = drop (udp.at + 8) packet.octets.now in
    let place : udp.at ≡ payload_place packet.header = ap (λ (u : UdpHeader). u.at) (same_udp packet udp read) in
    let size_is : length payload ≡ length (payload_in packet.octets.now udp) = ap (λ (p : List ℕ). length p) is in
    omega (arith, place, size_is, inside, within.whole, within.least, length-take (udp.length - 8) rest, length-drop (udp.at + 8) packet.octets.now)

-- whatever message was read ends in the packet
pub messages_inside : (packet : IpPacket) (udp : UdpHeader) (payload : List ℕ) (result : Result (Ecm × ℕ) RecordFault) → udp_read packet ≡ Ok udp → payload ≡ payload_in packet.octets.now udp
    → IfOk result (λ read. read.1 ≤ length payload) → IfOk result (λ read. payload_place packet.header + 8 + read.1 ≤ length packet.octets.now)
messages_inside packet udp payload (Ok read) ok is inside = message_inside packet udp payload read.1 ok is inside
messages_inside packet udp payload (Err fault) ok is inside = tt

-- the datagram is refused
pub datagram_refused : (packet : IpPacket) (r : Refused) → first_failing (datagram_rules packet.base packet.header packet.octets.now) ≡ Some r
    → first_failing (carried_rules packet.base packet.header packet.octets.now) ≡ Some r
unfolding carried_rules
datagram_refused packet r some =
    let octets : List ℕ = packet.octets.now in
    first_failing-append_refused (datagram_rules packet.base packet.header octets) (plain_rules (packet.base + payload_place packet.header + 8) (payload_in octets (udp_of packet.header octets))) r some

-- behind the datagram its message counts
pub behind_datagram : (packet : IpPacket) (udp : UdpHeader) (payload : List ℕ) → udp_read packet ≡ Ok udp → payload ≡ payload_in packet.octets.now udp
    → first_failing (datagram_rules packet.base packet.header packet.octets.now) ≡ None
    → first_failing (carried_rules packet.base packet.header packet.octets.now) ≡ first_failing (plain_rules (packet.base + udp.at + 8) payload)
unfolding carried_rules
behind_datagram packet udp payload read is none =
    let octets : List ℕ = packet.octets.now in
    let base = packet.base in
    let place = payload_place packet.header in
    let there = payload_in octets (udp_of packet.header octets) in
    first_failing-append (datagram_rules base packet.header octets) (plain_rules (base + place + 8) there) none
    ∙ ap (λ (p : List ℕ). first_failing (plain_rules (base + place + 8) p)) (sym (payload_is packet udp payload read is))
    ∙ ap (λ (u : UdpHeader). first_failing (plain_rules (base + u.at + 8) payload)) (sym (same_udp packet udp read))
