-- What is sent into a tunnel arrives as a packet in a tunnel, and a message as a control message between the same addresses.
use Rattle.std.proofs.Common.{◌≡◌, ◌<◌, ◌≤◌, ◌+◌, ◌-◌, ◌^◌, ℕ, Bool, true, false, cond, List, [], ◌++◌, length, take, eqb, Option, None, refl, sym, ap, subst, ◌∙◌, arith}
use Rattle.std.proofs.Math.Seq.{drop-append-add, take-length}
use Rattle.std.proofs.lemmas.Bool.{le-leb}
use Rattle.std.proofs.lemmas.Grind.{common_steps}
use Rattle.std.proofs.lemmas.List.{append-nil, drop_at, length-append}
use Rattle.octets.specs.Numbers.{big}
use Rattle.octets.specs.Rules.{first_failing}
use Rattle.octets.specs.declared.refused.Refused.{Refused}
use Rattle.ip_headers.specs.Addr.{number, width, IsAddr}
use Rattle.ip_headers.specs.Canonical.{canonical_v4, canonical_v6, InRangeV4, InRangeV6}
use Rattle.ip_headers.specs.Ip.{dest_of, header_at, is_fragment, payload_place, protocol_of, source_of, v4_at, v6_at}
use Rattle.ip_headers.specs.Udp.{answer_of, canonical_udp, datagram, datagram_in, nonzero, payload_in, sum_rules, udp_at, udp_checksum, udp_rules, udp_sum}
use Rattle.ip_headers.specs.declared.addr.Addr.{Addr}
use Rattle.ip_headers.specs.declared.addr.Addr.TheVariants as family
use Rattle.ip_headers.specs.declared.header.IpHeader.{IpHeader}
use Rattle.ip_headers.specs.declared.header.IpHeader.TheVariants.{V4, V6}
use Rattle.ip_headers.specs.declared.header.UdpHeader.{UdpHeader}
use Rattle.ip_headers.proofs.DatagramLemmas.{length-datagram}
use Rattle.ip_headers.proofs.ReadAgain.{header_at-canonical_v4, header_at-canonical_v6}
use Rattle.ip_headers.proofs.Spelled.{read_back}
use Rattle.ip_headers.proofs.UdpReadAgain.{udp_at-canonical, udp_obeys, udp_sum-canonical}
use Rattle.map_messages.specs.Control.{control_header, control_v4, control_v6}
use Rattle.router_log.specs.declared.verdict.Verdict.{Verdict}
use Rattle.router_model.specs.Course.{Data, Datagram, FramePacket, arriving, by_port, by_udp, datagram_cases, datagram_read, unless_settled}
use Rattle.router_model.specs.Emits.{message_packet}
use Rattle.audit_laws.proofs.OctetLemmas.{AreOctets}

-- a packet that stands at the front of its frame
abbrev pub at_front : IpHeader → List ℕ → FramePacket
at_front header octets = record { base = 0; header = header; octets = octets }

-- a whole datagram arrives by its ports
by-ports : (header : IpHeader) (octets : List ℕ) (udp : UdpHeader) → is_fragment header ≡ false → protocol_of header ≡ 17
    → first_failing (udp_rules 0 (payload_place header) octets) ≡ None → udp_at (payload_place header) octets ≡ udp → arriving (at_front header octets) ≡ by_port (at_front header octets) udp
unfolding arriving
by-ports header octets udp whole protocol rules value =
    let packet = at_front header octets in
    let cases : first_failing (datagram_cases header) ≡ None = rw (whole, protocol) refl in
    ap (λ (o : Option Verdict). unless_settled o (by_udp packet (datagram_read packet))) cases
    ∙ ap (λ (o : Option Refused). by_udp packet (answer_of o (udp_at (payload_place header) octets))) rules
    ∙ ap (by_port packet) value

-- the UDP header of a datagram that is written, and its rules
udp_is : (from to : Addr) (source dest : ℕ) (payload front : List ℕ) (summed : Bool) → source < 2 ^ 16 → dest < 2 ^ 16 → 8 + length payload < 2 ^ 16
    → udp_at (length front) (front ++ canonical_udp from to source dest payload summed)
    ≡ record { source = source; dest = dest; length = 8 + length payload; checksum = cond summed (udp_checksum from to source dest payload) 0; at = length front }
udp_is from to source dest payload front summed source_fits dest_fits fits =
    ap (λ (d : List ℕ). udp_at (length front) (front ++ d)) (sym (append-nil (canonical_udp from to source dest payload summed)))
    ∙ udp_at-canonical from to source dest payload summed front [] source_fits dest_fits fits

udp_passes : (from to : Addr) (source dest : ℕ) (payload front : List ℕ) (summed : Bool) → 8 + length payload < 2 ^ 16
    → first_failing (udp_rules 0 (length front) (front ++ canonical_udp from to source dest payload summed)) ≡ None
udp_passes from to source dest payload front summed fits =
    ap (λ (d : List ℕ). first_failing (udp_rules 0 (length front) (front ++ d))) (sym (append-nil (canonical_udp from to source dest payload summed)))
    ∙ udp_obeys 0 from to source dest payload summed front [] fits

-- ### into a tunnel

-- it arrives as a packet in a tunnel
abbrev pub IsTunnelled : List ℕ → Type 0
IsTunnelled packet = (d : Datagram) × (arriving (at_front (header_at packet) packet) ≡ Data d)

by_header : (packet : List ℕ) (header : IpHeader) (d : Datagram) → header_at packet ≡ header → arriving (at_front header packet) ≡ Data d → IsTunnelled packet
by_header packet header d is arrives = (d, ap (λ (h : IpHeader). arriving (at_front h packet)) is ∙ arrives)

pub tunnel-arrives : (header : IpHeader) (front payload : List ℕ) (port : ℕ) → port < 2 ^ 16 → 8 + length payload < 2 ^ 16 → header_at (front ++ datagram port 4341 0 payload) ≡ header
    → is_fragment header ≡ false → protocol_of header ≡ 17 → payload_place header ≡ length front → IsTunnelled (front ++ datagram port 4341 0 payload)
tunnel-arrives header front payload port port_fits fits is whole protocol place =
    let packet : List ℕ = front ++ datagram port 4341 0 payload in
    let some : Addr = family.V4 0 in
    let udp : UdpHeader = record { source = port; dest = 4341; length = 8 + length payload; checksum = 0; at = length front } in
    let rules : first_failing (udp_rules 0 (payload_place header) packet) ≡ None =
    ap (λ (at : ℕ). first_failing (udp_rules 0 at packet)) place ∙ udp_passes some some port 4341 payload front false fits in
    let value : udp_at (payload_place header) packet ≡ udp =
    ap (λ (at : ℕ). udp_at at packet) place ∙ udp_is some some port 4341 payload front false port_fits (omega arith) fits in
    by_header packet header (record { packet = at_front header packet; udp = udp }) is (by-ports header packet udp whole protocol rules value)

-- ### a message

-- the header of a control packet in front of others
record IsHead (from to : Addr) (front octets : List ℕ) (header : IpHeader) : Type 0 where
  pub value : header_at octets ≡ header
  pub source : source_of header ≡ from
  pub dest : dest_of header ≡ to
  pub protocol : protocol_of header ≡ 17
  pub whole : is_fragment header ≡ false
  pub place : payload_place header ≡ length front

head_of : (from to : Addr) (size : ℕ) (behind : List ℕ) → width from ≡ width to → IsAddr from → IsAddr to → size ≤ 65008
    → (header : IpHeader) × IsHead from to (control_header from to size) (control_header from to size ++ behind) header
unfolding control_header
head_of (family.V4 a) (family.V4 b) size behind same from to short =
    let h = control_v4 a b size in
    let range : InRangeV4 h = record { source = from; dest = to; tos = omega arith; total = omega (arith, short); id = omega arith; offset = omega arith; ttl = omega arith; protocol = omega arith; plain = refl } in
    (V4 h, record { value = header_at-canonical_v4 h behind range; source = refl; dest = refl; protocol = refl; whole = refl; place = refl })
head_of (family.V6 a) (family.V6 b) size behind same from to short =
    let h = control_v6 a b size in
    let range : InRangeV6 h = record { source = from; dest = to; class = omega arith; flow = omega arith; payload = omega (arith, short); next = omega arith; hops = omega arith } in
    (V6 h, record { value = header_at-canonical_v6 h behind range; source = refl; dest = refl; protocol = refl; whole = refl; place = refl })
head_of (family.V4 a) (family.V6 b) size behind same from to short = absurd (omega (arith, same))
head_of (family.V6 a) (family.V4 b) size behind same from to short = absurd (omega (arith, same))

-- a message to a port arrives by it, with its payload, and its checksum is right
pub record IsMessage (from : Addr) (port : ℕ) (payload packet : List ℕ) : Type 0 where
  pub udp : UdpHeader
  pub source : source_of (header_at packet) ≡ from
  pub arrives : arriving (at_front (header_at packet) packet) ≡ by_port (at_front (header_at packet) packet) udp
  pub source_port : udp.source ≡ 4342
  pub dest_port : udp.dest ≡ port
  pub inside : payload_in packet udp ≡ payload
  pub sum : AreOctets payload → first_failing (sum_rules 0 (header_at packet) packet udp false) ≡ None

nonzero-some : (n : ℕ) → eqb (nonzero n) 0 ≡ false
nonzero-some n = grind (arith, common_steps)

pub message-arrives : (from to : Addr) (port : ℕ) (payload : List ℕ) → width from ≡ width to → IsAddr from → IsAddr to → port < 2 ^ 16 → length payload ≤ 65000
    → IsMessage from port payload (message_packet from to port payload)
message-arrives from to port payload same from_fits to_fits port_fits short =
    let size = 8 + length payload in
    let front : List ℕ = control_header from to size in
    let behind : List ℕ = canonical_udp from to 4342 port payload true in
    let packet : List ℕ = front ++ behind in
    let checksum : ℕ = udp_checksum from to 4342 port payload in
    let udp : UdpHeader = record { source = 4342; dest = port; length = size; checksum = checksum; at = length front } in
    let head = head_of from to size behind same from_fits to_fits (omega (arith, short)) in
    let header : IpHeader = head.0 in
    let h = head.1 in
    let rules : first_failing (udp_rules 0 (payload_place header) packet) ≡ None =
    ap (λ (at : ℕ). first_failing (udp_rules 0 at packet)) h.place ∙ udp_passes from to 4342 port payload front true (omega (arith, short)) in
    let value : udp_at (payload_place header) packet ≡ udp =
    ap (λ (at : ℕ). udp_at at packet) h.place ∙ udp_is from to 4342 port payload front true (omega arith) port_fits (omega (arith, short)) in
    let size_is : length behind ≡ size = length-datagram 4342 port checksum payload in
    let in_packet : datagram_in packet udp ≡ behind =
    ap (λ (d : List ℕ). take size d) (drop_at front behind (length front) refl) ∙ ap (λ (n : ℕ). take n behind) (sym size_is) ∙ take-length behind in
    let less : size - 8 ≡ length payload = omega arith in
    let payload_is : payload_in packet udp ≡ payload =
    ap (λ (d : List ℕ). take (size - 8) d) (drop-append-add front behind 8) ∙ ap (λ (n : ℕ). take n payload) less ∙ take-length payload in
    record {
      udp = udp;
      source = ap source_of h.value ∙ h.source;
      arrives = subst (λ (g : IpHeader). arriving (at_front g packet) ≡ by_port (at_front g packet) udp) (sym h.value) (by-ports header packet udp h.whole h.protocol rules value);
      source_port = refl;
      dest_port = refl;
      inside = payload_is;
      sum = λ are.
          let whole : udp_sum from to (datagram_in packet udp) ≡ 65535 = ap (λ (d : List ℕ). udp_sum from to d) in_packet ∙ udp_sum-canonical from to 4342 port payload are in
          let sums : udp_sum (source_of header) (dest_of header) (datagram_in packet udp) ≡ 65535 = rw (h.source, h.dest) whole in
          let some : eqb checksum 0 ≡ false = nonzero-some (65535 - udp_sum from to (datagram 4342 port 0 payload)) in
          let sum : first_failing (sum_rules 0 header packet udp false) ≡ None = rw (some, sums) refl in
          subst (λ (g : IpHeader). first_failing (sum_rules 0 g packet udp false) ≡ None) (sym h.value) sum;
    }

-- ### whoever it comes from

-- a datagram arrives by its ports, with its payload
pub record IsDatagram (payload packet : List ℕ) : Type 0 where
  pub udp : UdpHeader
  pub arrives : arriving (at_front (header_at packet) packet) ≡ by_port (at_front (header_at packet) packet) udp
  pub inside : payload_in packet udp ≡ payload

size-behind : (source dest sum : ℕ) (front payload : List ℕ) → 8 + length payload < 2 ^ 16 → big 2 (front ++ datagram source dest sum payload) (length front + 4) ≡ 8 + length payload
size-behind source dest sum front payload fits =
    ap (λ (rest : List ℕ). big 2 rest 0) (drop-append-add front (datagram source dest sum payload) 4) ∙ read_back 2 (8 + length payload) [] fits

datagram-arrives : (header : IpHeader) (front payload : List ℕ) (source dest sum : ℕ) → 8 + length payload < 2 ^ 16 → header_at (front ++ datagram source dest sum payload) ≡ header
    → is_fragment header ≡ false → protocol_of header ≡ 17 → payload_place header ≡ length front → IsDatagram payload (front ++ datagram source dest sum payload)
datagram-arrives header front payload source dest sum fits is whole protocol place =
    let behind : List ℕ = datagram source dest sum payload in
    let packet : List ℕ = front ++ behind in
    let at = length front in
    let udp : UdpHeader = udp_at at packet in
    let size : big 2 packet (at + 4) ≡ 8 + length payload = size-behind source dest sum front payload fits in
    let len : length packet ≡ at + (8 + length payload) = omega (arith, length-append front behind, length-datagram source dest sum payload) in
    let rules : first_failing (udp_rules 0 at packet) ≡ None =
    rw (le-leb (at + 8) (length packet) (omega (arith, len)), size, le-leb 8 (8 + length payload) (omega arith), le-leb (at + (8 + length payload)) (length packet) (omega (arith, len))) refl in
    let rules_there : first_failing (udp_rules 0 (payload_place header) packet) ≡ None = ap (λ (n : ℕ). first_failing (udp_rules 0 n packet)) place ∙ rules in
    let value : udp_at (payload_place header) packet ≡ udp = ap (λ (n : ℕ). udp_at n packet) place in
    let less : udp.length - 8 ≡ length payload = omega (arith, size) in
    record {
      udp = udp;
      arrives = subst (λ (g : IpHeader). arriving (at_front g packet) ≡ by_port (at_front g packet) udp) (sym is) (by-ports header packet udp whole protocol rules_there value);
      inside = ap (λ (d : List ℕ). take (udp.length - 8) d) (drop-append-add front behind 8) ∙ ap (λ (n : ℕ). take n payload) less ∙ take-length payload;
    }

pub message-datagram : (from to : Addr) (port : ℕ) (payload : List ℕ) → length payload ≤ 65000 → IsDatagram payload (message_packet from to port payload)
unfolding control_header
message-datagram (family.V4 a) to port payload short =
    let front : List ℕ = canonical_v4 (control_v4 a (number to) (8 + length payload)) in
    let sum : ℕ = udp_checksum (family.V4 a) to 4342 port payload in
    datagram-arrives (V4 (v4_at (front ++ datagram 4342 port sum payload))) front payload 4342 port sum (omega (arith, short)) refl refl refl refl
message-datagram (family.V6 a) to port payload short =
    let front : List ℕ = canonical_v6 (control_v6 a (number to) (8 + length payload)) in
    let sum : ℕ = udp_checksum (family.V6 a) to 4342 port payload in
    datagram-arrives (V6 (v6_at (front ++ datagram 4342 port sum payload))) front payload 4342 port sum (omega (arith, short)) refl refl refl refl
