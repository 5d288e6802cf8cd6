-- The nonce that is lifted out of a packet of the router's own: that of a Map-Request, and none of any other.
use Rattle.std.proofs.Common.{◌≡◌, ◌≤◌, ◌+◌, ◌-◌, ◌/◌, ◌==◌, ◌||◌, ℕ, Bool, true, false, cond, List, length, take, Option, Some, None, refl, sym, ap, ◌∙◌, arith}
use Rattle.std.specs.Prelude.{option_map}
use Rattle.std.proofs.lemmas.List.{take_all}
use Rattle.octets.specs.Numbers.{flag}
use Rattle.octets.specs.Rules.{first_failing}
use Rattle.octets.specs.declared.refused.Refused.{Refused}
use Rattle.ip_headers.specs.Ip.{header_at, ip_rules, packet_in, source_of}
use Rattle.ip_headers.specs.Udp.{payload_in, sum_rules}
use Rattle.ip_headers.specs.declared.addr.Addr.{Addr}
use Rattle.ip_headers.specs.declared.header.UdpHeader.{UdpHeader}
use Rattle.capture_io.specs.declared.link.Link.TheVariants.{Raw}
use Rattle.map_messages.specs.Message.{message_rules}
use Rattle.map_messages.specs.Reply.{canonical_reply}
use Rattle.map_messages.specs.Words.{kind}
use Rattle.map_messages.specs.declared.message.MapReply.{MapReply}
use Rattle.map_messages.specs.declared.message.Message.{Message}
use Rattle.map_messages.specs.declared.message.Message.TheVariants as message
use Rattle.lisp_settings.specs.declared.settings.OwnLocator.{OwnLocator}
use Rattle.lisp_settings.specs.declared.settings.Settings.{Settings}
use Rattle.router_log.specs.declared.verdict.Reason.TheVariants.{NotTunnel}
use Rattle.router_log.specs.declared.verdict.Verdict.TheVariants.{Drop}
use Rattle.router_model.specs.Course.{Control, Data, Datagram, FramePacket, Settled, arriving, by_port}
use Rattle.router_model.specs.Emits.{message_packet}
use Rattle.router_model.specs.Received.{message_in, reply_in}
use Rattle.router_model.specs.Site.{is_own}
use Rattle.audit.specs.Requests.{course_nonce, message_nonce, nonce_of, none_refused, own_nonce, read_nonce, sent_nonce}
use Rattle.audit_laws.specs.Whole.{IsWhole}
use Rattle.audit_laws.proofs.CourseLemmas.{at_front, message-datagram, IsMessage, IsTunnelled}
use Rattle.audit_laws.proofs.OctetLemmas.{AreOctets}

-- the nonce of a packet, whose header stands at its front
abbrev pub packet_nonce : List OwnLocator → List ℕ → Option ℕ
packet_nonce locators octets = own_nonce locators (at_front (header_at octets) octets)

-- a record that is exactly one packet has its nonce
pub record-nonce : (settings : Settings) (number moment : ℕ) (octets : List ℕ) → IsWhole octets
    → sent_nonce settings (record { number = number; moment = moment; link = Raw; octets = octets }) ≡ packet_nonce settings.locators octets
unfolding sent_nonce
record-nonce settings number moment octets whole =
    let none : length octets - length octets ≡ 0 = omega arith in
    let all : packet_in octets ≡ octets = ap (λ (n : ℕ). take n octets) (sym whole.exact) ∙ take_all (length octets) octets (omega arith) in
    ap (λ (base : ℕ). none_refused (first_failing (ip_rules base octets)) (own_nonce settings.locators (record { base = base; header = header_at octets; octets = packet_in octets }))) none
    ∙ ap (λ (refusal : Option Refused). none_refused refusal (own_nonce settings.locators (record { base = 0; header = header_at octets; octets = packet_in octets }))) whole.lawful
    ∙ ap (λ (packet : List ℕ). own_nonce settings.locators (record { base = 0; header = header_at octets; octets = packet })) all

-- ### packets without one

-- one from another address
pub other-none : (locators : List OwnLocator) (octets : List ℕ) → is_own locators (source_of (header_at octets)) ≡ false → packet_nonce locators octets ≡ None
other-none locators octets other = ap (λ (own : Bool). cond own (course_nonce (arriving (at_front (header_at octets) octets))) None) other

course-none : (locators : List OwnLocator) (octets : List ℕ) → course_nonce (arriving (at_front (header_at octets) octets)) ≡ None → packet_nonce locators octets ≡ None
course-none locators octets none = by (is_own locators (source_of (header_at octets)))
  where
    by : (own : Bool) → cond own (course_nonce (arriving (at_front (header_at octets) octets))) None ≡ None
    by true = none
    by false = refl

-- one in a tunnel
pub tunnel-none : (locators : List OwnLocator) (octets : List ℕ) → IsTunnelled octets → packet_nonce locators octets ≡ None
tunnel-none locators octets is = course-none locators octets (ap course_nonce is.1)

-- what is refused, or has none
refused-none : (o : Option Refused) → none_refused o None ≡ None
refused-none None = refl
refused-none (Some refused) = refl

port-none : (packet : FramePacket) (udp : UdpHeader) → read_nonce (message_in (payload_in packet.octets udp)) ≡ None → course_nonce (by_port packet udp) ≡ None
port-none packet udp none = by (udp.dest == 4341) (udp.dest == 4342 || udp.source == 4342)
  where
    d : Datagram
    d = record { packet = packet; udp = udp }

    message-none : message_nonce (packet.base + udp.at + 8) (payload_in packet.octets udp) ≡ None
    message-none = ap (none_refused (first_failing (message_rules (packet.base + udp.at + 8) (payload_in packet.octets udp)))) none ∙ refused-none _

    by : (b c : Bool) → course_nonce (cond b (Data (record { packet = packet; udp = udp })) (cond c (Control (record { packet = packet; udp = udp })) (Settled (Drop NotTunnel)))) ≡ None
    by true c = refl
    by false true = ap (none_refused (first_failing (sum_rules packet.base packet.header packet.octets udp false))) message-none ∙ refused-none _
    by false false = refl

-- a Map-Reply
reply-read : (octets : List ℕ) → kind octets ≡ 2 → read_nonce (message_in octets) ≡ None
unfolding message_in
reply-read octets is = rw is (replied (reply_in octets))
  where
    replied : (o : Option MapReply) → read_nonce (option_map message.Reply o) ≡ None
    replied None = refl
    replied (Some reply) = refl

reply-kind : (probe : Bool) → (32 + flag probe 8) / 16 ≡ 2
reply-kind true = refl
reply-kind false = refl

pub reply-none : (locators : List OwnLocator) (from to : Addr) (port : ℕ) (reply : MapReply) → length (canonical_reply reply) ≤ 65000 → packet_nonce locators (message_packet from to port (canonical_reply reply)) ≡ None
reply-none locators from to port reply short =
    let packet : List ℕ = message_packet from to port (canonical_reply reply) in
    let d = message-datagram from to port (canonical_reply reply) short in
    course-none locators packet
    (ap course_nonce d.arrives ∙ port-none (at_front (header_at packet) packet) d.udp (ap (λ (payload : List ℕ). read_nonce (message_in payload)) d.inside ∙ reply-read (canonical_reply reply) (reply-kind reply.probe)))

-- ### Map-Requests

control-arrives : (packet : FramePacket) (udp : UdpHeader) → udp.dest ≡ 4342 → by_port packet udp ≡ Control (record { packet = packet; udp = udp })
control-arrives packet udp port = rw port refl

-- a message that is read again, from an own locator
pub message-nonce : (locators : List OwnLocator) (from : Addr) (payload packet : List ℕ) (told : Message) → IsMessage from 4342 payload packet → is_own locators from ≡ true → AreOctets payload
    → ((base : ℕ) → first_failing (message_rules base payload) ≡ None) → message_in payload ≡ Some told → packet_nonce locators packet ≡ nonce_of told
message-nonce locators from payload packet told is own are pass read =
    let p : FramePacket = at_front (header_at packet) packet in
    let d : Datagram = record { packet = p; udp = is.udp } in
    let own_there : is_own locators (source_of (header_at packet)) ≡ true = ap (is_own locators) is.source ∙ own in
    let arrives : arriving p ≡ Control d = is.arrives ∙ control-arrives p is.udp is.dest_port in
    let base = 0 + is.udp.at + 8 in
    ap (λ (b : Bool). cond b (course_nonce (arriving p)) None) own_there
    ∙ ap course_nonce arrives
    ∙ ap (λ (o : Option Refused). none_refused o (message_nonce base (payload_in packet is.udp))) (is.sum are)
    ∙ ap (message_nonce base) is.inside
    ∙ ap (λ (o : Option Refused). none_refused o (read_nonce (message_in payload))) (pass base)
    ∙ ap read_nonce read
