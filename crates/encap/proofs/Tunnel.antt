-- What is sent carries the packet through the tunnel.
use Rattle.std.proofs.Common.{◌≡◌, ◌≤◌, ◌<◌, ◌+◌, ◌^◌, ℕ, List, [], ◌++◌, length, slice_index, Bool, true, false, None, refl, ap, ◌∙◌, arith, length-append}
use Rattle.std.proofs.Math.Seq.{drop-append-add}
use Rattle.std.proofs.lemmas.List.{append-nil}
use Rattle.octets.specs.Rules.{first_failing}
use Rattle.ip_headers.specs.Addr.{width, IsAddr}
use Rattle.ip_headers.specs.Canonical.{canonical_v4, canonical_v6, InRangeV4, InRangeV6}
use Rattle.ip_headers.specs.Ip.{class_of, ip_rules, is_v4, header_at, packet_len, payload_place, protocol_of, source_of, dest_of, ttl_of}
use Rattle.ip_headers.specs.Packet.{IsPacket}
use Rattle.ip_headers.specs.Udp.{canonical_udp, udp_at, udp_rules}
use Rattle.ip_headers.specs.declared.addr.Addr.{Addr}
use Rattle.ip_headers.specs.declared.addr.Addr.TheVariants as family
use Rattle.ip_headers.specs.declared.header.IpHeader.{IpHeader}
use Rattle.ip_headers.specs.declared.header.IpHeader.TheVariants.{V4, V6}
use Rattle.ip_headers.proofs.CutPacket.{v4_facts, v6_facts, is_six}
use Rattle.ip_headers.proofs.ReadAgain.{header_at-canonical_v4, header_at-canonical_v6, v4_obeys, v6_obeys}
use Rattle.ip_headers.proofs.UdpReadAgain.{udp_at-canonical, udp_obeys}
use Rattle.lisp_header.specs.Header.{canonical, InRange}
use Rattle.lisp_header.specs.declared.header.LispHeader.{LispHeader}
use Rattle.lisp_header.proofs.ReadAgain.{header_at-canonical}
use Rattle.encap.specs.Forwarded.{forwarded}
use Rattle.encap.specs.Rules.{encap_rules}
use Rattle.encap.specs.Wrapped.{outer_header, outer_v4, outer_v6, tunnel_udp, wrapped, IsPlain, Wrapped}
use Rattle.encap.proofs.Drops.{passed}
use Rattle.encap.proofs.Hops.{hop}
use Rattle.encap.proofs.Lengths.{length-forwarded}

-- what the outer header names
record IsOuter (inner : List ℕ) (from to : Addr) (front datagram : List ℕ) (header : IpHeader) : Type 0 where
  pub value : header_at (front ++ datagram) ≡ header
  pub place : payload_place header ≡ length front
  pub lawful : (base : ℕ) → first_failing (ip_rules base (front ++ datagram)) ≡ None
  pub exact : length (front ++ datagram) ≡ packet_len header
  pub source : source_of header ≡ from
  pub dest : dest_of header ≡ to
  pub class : class_of header ≡ class_of (header_at inner)
  pub ttl : ttl_of header + 1 ≡ ttl_of (header_at inner)
  pub protocol : protocol_of header ≡ 17
  pub plain : IsPlain header

-- the UDP header behind the outer one
udp_is : (from to : Addr) (port : ℕ) (payload front : List ℕ) → port < 2 ^ 16 → 8 + length payload < 2 ^ 16
    → udp_at (length front) (front ++ canonical_udp from to port 4341 payload false) ≡ tunnel_udp port (8 + length payload) (length front)
udp_is from to port payload front port_fits fits =
    rw (append-nil payload) at (udp_at-canonical from to port 4341 payload false front [] port_fits (omega arith) fits)

udp_passes : (base : ℕ) (from to : Addr) (port : ℕ) (payload front : List ℕ) → 8 + length payload < 2 ^ 16
    → first_failing (udp_rules base (length front) (front ++ canonical_udp from to port 4341 payload false)) ≡ None
udp_passes base from to port payload front fits =
    rw (append-nil payload) at (udp_obeys base from to port 4341 payload false front [] fits)

abbrev datagram_of : List ℕ → Addr → Addr → ℕ → LispHeader → List ℕ
datagram_of inner from to port lisp = canonical_udp from to port 4341 (canonical lisp ++ forwarded inner) false

carries : (base : ℕ) (inner : List ℕ) (from to : Addr) (port : ℕ) (lisp : LispHeader) (front : List ℕ) (header : IpHeader)
    → IsPacket base inner → 1 ≤ ttl_of (header_at inner) → length inner ≤ 1464 → port < 2 ^ 16 → InRange lisp
    → IsOuter inner from to front (datagram_of inner from to port lisp) header
    → Wrapped inner from to port lisp (front ++ datagram_of inner from to port lisp)
carries base inner from to port lisp front header is_packet alive short port_fits range outer =
    let payload = canonical lisp ++ forwarded inner in
    let datagram = datagram_of inner from to port lisp in
    let size : 8 + length payload ≡ 16 + length inner = omega (arith, length-append (canonical lisp) (forwarded inner), length-forwarded base inner is_packet.lawful) in
    record {
      lawful = outer.lawful;
      exact = rw outer.value outer.exact;
      source = rw outer.value outer.source;
      dest = rw outer.value outer.dest;
      class = rw outer.value outer.class;
      ttl = rw outer.value outer.ttl;
      protocol = rw outer.value outer.protocol;
      plain = rw outer.value outer.plain;
      udp_lawful = λ at. rw (outer.value, outer.place) (udp_passes at from to port payload front (omega arith));
      udp = rw (outer.value, outer.place) (udp_is from to port payload front port_fits (omega arith) ∙ ap (λ (n : ℕ). tunnel_udp port n (length front)) size);
      lisp_header = rw (outer.value, outer.place, drop-append-add front datagram 8) (header_at-canonical lisp (forwarded inner) range);
      payload = rw (outer.value, outer.place, drop-append-add front datagram 16) (hop base inner is_packet alive);
    }

-- class and TTL of a packet are octets
record IsOctets (inner : List ℕ) : Type 0 where
  pub class : class_of (header_at inner) < 256
  pub ttl : ttl_of (header_at inner) < 256

octets_by : (base : ℕ) (inner : List ℕ) (four : Bool) → is_v4 inner ≡ four → IsPacket base inner → IsOctets inner
octets_by base inner true is is_packet =
    let f = v4_facts base inner is_packet.lawful is in
    let tos : slice_index inner 1 < 256 = is_packet.octets 1 0 (omega (arith, f.long)) in
    let ttl : slice_index inner 8 < 256 = is_packet.octets 8 0 (omega (arith, f.long)) in
    record { class = rw is tos; ttl = rw is ttl }
octets_by base inner false is is_packet =
    let f = v6_facts base inner is_packet.lawful (is_six base inner is_packet.lawful is) in
    let hops : slice_index inner 7 < 256 = is_packet.octets 7 0 (omega (arith, f.long)) in
    record { class = rw is (omega arith); ttl = rw is hops }

is_octets : (base : ℕ) (inner : List ℕ) → IsPacket base inner → IsOctets inner
is_octets base inner is_packet = octets_by base inner (is_v4 inner) refl is_packet

-- the length of the datagram
length-datagram : (base : ℕ) (inner : List ℕ) (from to : Addr) (port : ℕ) (lisp : LispHeader) → IsPacket base inner → length (datagram_of inner from to port lisp) ≡ 16 + length inner
length-datagram base inner from to port lisp is_packet = omega (arith, length-append (canonical lisp) (forwarded inner), length-forwarded base inner is_packet.lawful)

outer_v4_is : (base : ℕ) (inner : List ℕ) (source dest port : ℕ) (lisp : LispHeader) → IsPacket base inner → 1 ≤ ttl_of (header_at inner) → length inner ≤ 1464 → source < 2 ^ 32 → dest < 2 ^ 32
    → IsOuter inner (family.V4 source) (family.V4 dest) (canonical_v4 (outer_v4 inner source dest)) (datagram_of inner (family.V4 source) (family.V4 dest) port lisp) (V4 (outer_v4 inner source dest))
outer_v4_is base inner source dest port lisp is_packet alive short source_fits dest_fits =
    let header = outer_v4 inner source dest in
    let datagram = datagram_of inner (family.V4 source) (family.V4 dest) port lisp in
    let size : length datagram ≡ 16 + length inner = length-datagram base inner (family.V4 source) (family.V4 dest) port lisp is_packet in
    let octets = is_octets base inner is_packet in
    let range : InRangeV4 header = record { source = source_fits; dest = dest_fits; tos = octets.class; total = omega arith; id = omega arith; offset = omega arith; ttl = omega (arith, octets.ttl); protocol = omega arith; plain = refl } in
    record {
      value = header_at-canonical_v4 header datagram range;
      place = refl;
      lawful = λ at. v4_obeys at header datagram range (omega arith);
      exact = omega (arith, length-append (canonical_v4 header) datagram);
      source = refl;
      dest = refl;
      class = refl;
      ttl = omega arith;
      protocol = refl;
      plain = record { no_options = refl; id = refl; dont_fragment = refl; more = refl; offset = refl };
    }

outer_v6_is : (base : ℕ) (inner : List ℕ) (source dest port : ℕ) (lisp : LispHeader) → IsPacket base inner → 1 ≤ ttl_of (header_at inner) → length inner ≤ 1464 → source < 2 ^ 128 → dest < 2 ^ 128
    → IsOuter inner (family.V6 source) (family.V6 dest) (canonical_v6 (outer_v6 inner source dest)) (datagram_of inner (family.V6 source) (family.V6 dest) port lisp) (V6 (outer_v6 inner source dest))
outer_v6_is base inner source dest port lisp is_packet alive short source_fits dest_fits =
    let header = outer_v6 inner source dest in
    let datagram = datagram_of inner (family.V6 source) (family.V6 dest) port lisp in
    let size : length datagram ≡ 16 + length inner = length-datagram base inner (family.V6 source) (family.V6 dest) port lisp is_packet in
    let octets = is_octets base inner is_packet in
    let range : InRangeV6 header = record { source = source_fits; dest = dest_fits; class = octets.class; flow = omega arith; payload = omega arith; next = omega arith; hops = omega (arith, octets.ttl) } in
    record {
      value = header_at-canonical_v6 header datagram range;
      place = refl;
      lawful = λ at. v6_obeys at header datagram range size;
      exact = omega (arith, length-append (canonical_v6 header) datagram);
      source = refl;
      dest = refl;
      class = refl;
      ttl = omega arith;
      protocol = refl;
      plain = refl;
    }

pub carried : (base : ℕ) (inner : List ℕ) (from to : Addr) (port : ℕ) (lisp : LispHeader)
    → IsPacket base inner → first_failing (encap_rules inner from) ≡ None
    → width from ≡ width to → IsAddr from → IsAddr to → port < 2 ^ 16 → InRange lisp
    → Wrapped inner from to port lisp (wrapped inner from to port lisp)
unfolding outer_header
carried base inner (family.V4 source) (family.V4 dest) port lisp is_packet pass same from_fits to_fits port_fits range =
    let rules = passed inner (family.V4 source) pass in
    carries base inner (family.V4 source) (family.V4 dest) port lisp _ _ is_packet (omega (arith, rules.0)) (omega (arith, rules.1)) port_fits range
    (outer_v4_is base inner source dest port lisp is_packet (omega (arith, rules.0)) (omega (arith, rules.1)) from_fits to_fits)
carried base inner (family.V6 source) (family.V6 dest) port lisp is_packet pass same from_fits to_fits port_fits range =
    let rules = passed inner (family.V6 source) pass in
    carries base inner (family.V6 source) (family.V6 dest) port lisp _ _ is_packet (omega (arith, rules.0)) (omega (arith, rules.1)) port_fits range
    (outer_v6_is base inner source dest port lisp is_packet (omega (arith, rules.0)) (omega (arith, rules.1)) from_fits to_fits)
carried base inner (family.V4 source) (family.V6 dest) port lisp is_packet pass same from_fits to_fits port_fits range = absurd (omega arith)
carried base inner (family.V6 source) (family.V4 dest) port lisp is_packet pass same from_fits to_fits port_fits range = absurd (omega arith)
