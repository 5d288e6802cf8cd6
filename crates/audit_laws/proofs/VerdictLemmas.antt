-- The packet of a verdict is exactly one packet.
use Rattle.std.proofs.Common.{◌≡◌, ◌<◌, ◌≤◌, ◌+◌, ◌-◌, ◌*◌, ◌/◌, ◌^◌, ℕ, zero, suc, slice_index, eqb, ap₂, Bool, true, false, List, ◌++◌, length, drop, take, None, refl, sym, ap, subst, ◌∙◌, arith, length-append}
use Rattle.std.specs.Prelude.{unwrap_or}
use Rattle.std.proofs.lemmas.Bool.{ltb-true, ne_eqb}
use Rattle.std.proofs.lemmas.Grind.{common_steps}
use Rattle.std.proofs.lemmas.List.{get_or-drop}
use Rattle.std.proofs.lemmas.List.Elements.{All-take}
use Rattle.byteorder.specs.Endian.{big_from}
use Rattle.octets.specs.Numbers.{big}
use Rattle.octets.specs.Rules.{first_failing}
use Rattle.octets.proofs.RuleLemmas.{all_hold}
use Rattle.ip_headers.specs.Addr.{number}
use Rattle.ip_headers.specs.Canonical.{canonical_v4, canonical_v6}
use Rattle.ip_headers.specs.Ip.{class_of, header_at, ip_rules, is_v4, packet_in, packet_len, source_of, ttl_of, v4_at, v6_at, version}
use Rattle.ip_headers.specs.Packet.{IsPacket}
use Rattle.ip_headers.specs.Udp.{datagram}
use Rattle.ip_headers.specs.declared.addr.Addr.{Addr}
use Rattle.ip_headers.specs.declared.addr.Addr.TheVariants as family
use Rattle.ip_headers.specs.declared.header.IpHeader.{IpHeader}
use Rattle.ip_headers.specs.declared.header.IpHeader.TheVariants.{V4, V6}
use Rattle.ip_headers.proofs.CutPacket.{is_six, v4_cut, v6_cut, IsCut}
use Rattle.lisp_header.specs.Header.{canonical}
use Rattle.lisp_header.specs.declared.header.LispHeader.{LispHeader}
use Rattle.encap.specs.Forwarded.{forwarded, Forwarded}
use Rattle.encap.specs.Rules.{encap_rules, forward_rules}
use Rattle.encap.specs.Wrapped.{outer_header, outer_v4, outer_v6, wrapped}
use Rattle.encap.proofs.Drops.{passed}
use Rattle.encap.proofs.Hops.{hop}
use Rattle.encap.proofs.Lengths.{length-forwarded}
use Rattle.decap.specs.Delivered.{deliver_rules, delivered, lesser_ttl, new_class}
use Rattle.decap.specs.Ecn.{ecn, ecn_of}
use Rattle.decap.proofs.Leaving.{leaves}
use Rattle.audit_laws.specs.Whole.{IsWhole}
use Rattle.audit_laws.proofs.CourseLemmas.{IsTunnelled, tunnel-arrives}
use Rattle.audit_laws.proofs.HeaderLemmas.{v4-whole, v6-whole}
use Rattle.audit_laws.proofs.OctetLemmas.{AreOctets, behind, class-octet, datagram-octets, forwarded-octets, join, lisp-octets, marked-octets, octet-at, ttl-octet, v4-octets, v6-octets}

-- a packet of octets
pub whole-packet : (packet : List ℕ) → IsWhole packet → AreOctets packet → IsPacket 0 packet
whole-packet packet whole are = record { octets = are; lawful = whole.lawful; exact = whole.exact }

-- a number of two octets
big-two : (octets : List ℕ) (at : ℕ) → AreOctets octets → big 2 octets at < 65536
big-two octets at are =
    let rest = behind at octets are in
    omega (arith, octet-at (drop at octets) 0 rest, octet-at (drop at octets) 1 rest)

-- a packet is as long as its header can name
pub packet-whole : (packet : List ℕ) → IsPacket 0 packet → IsWhole packet
packet-whole packet is = record { lawful = is.lawful; exact = is.exact; short = by (is_v4 packet) refl }
  where
    by : (four : Bool) → is_v4 packet ≡ four → length packet ≤ 65575
    by true four =
        let size : length packet ≡ big 2 packet 2 = rw four at is.exact in
        omega (arith, size, big-two packet 2 is.octets)
    by false four =
        let size : length packet ≡ big 2 packet 4 + 40 = rw four at is.exact in
        omega (arith, size, big-two packet 4 is.octets)

-- ### the packet in the front of octets

from_cut : (base : ℕ) (octets : List ℕ) (header : IpHeader) → AreOctets octets → IsCut base octets (take (packet_len header) octets) header → IsPacket base (take (packet_len header) octets)
from_cut base octets header are cut = record {
  octets = All-take (λ octet. octet < 256) (packet_len header) octets are;
  lawful = cut.lawful;
  exact = cut.exact ∙ ap packet_len cut.spells;
}

pub packet-cut : (base : ℕ) (octets : List ℕ) → first_failing (ip_rules base octets) ≡ None → AreOctets octets → IsPacket base (packet_in octets)
packet-cut base octets lawful are = by (is_v4 octets) refl
  where
    by : (four : Bool) → is_v4 octets ≡ four → IsPacket base (packet_in octets)
    by true is =
        let same : header_at octets ≡ V4 (v4_at octets) = rw is refl in
        subst (λ (h : IpHeader). IsPacket base (take (packet_len h) octets)) (sym same) (from_cut base octets (V4 (v4_at octets)) are (v4_cut base octets lawful is))
    by false is =
        let same : header_at octets ≡ V6 (v6_at octets) = rw is refl in
        subst (λ (h : IpHeader). IsPacket base (take (packet_len h) octets)) (sym same) (from_cut base octets (V6 (v6_at octets)) are (v6_cut base octets lawful (is_six base octets lawful is)))

-- its header is that of the octets
pub header-cut : (base : ℕ) (octets : List ℕ) → first_failing (ip_rules base octets) ≡ None → header_at (packet_in octets) ≡ header_at octets
header-cut base octets lawful = by (is_v4 octets) refl
  where
    by : (four : Bool) → is_v4 octets ≡ four → header_at (packet_in octets) ≡ header_at octets
    by true is =
        let same : header_at octets ≡ V4 (v4_at octets) = rw is refl in
        ap (λ (h : IpHeader). header_at (take (packet_len h) octets)) same ∙ sym (v4_cut base octets lawful is).spells ∙ sym same
    by false is =
        let same : header_at octets ≡ V6 (v6_at octets) = rw is refl in
        ap (λ (h : IpHeader). header_at (take (packet_len h) octets)) same ∙ sym (v6_cut base octets lawful (is_six base octets lawful is)).spells ∙ sym same

-- ### past the tunnels

pub forwarded-packet : (base : ℕ) (packet : List ℕ) → IsPacket base packet → first_failing (forward_rules packet) ≡ None → IsPacket 0 (forwarded packet)
forwarded-packet base packet is pass =
    let alive : 1 < ttl_of (header_at packet) = ltb-true _ _ (all_hold (forward_rules packet) pass).0 in
    let further = hop base packet is (omega (arith, alive)) in
    record { octets = forwarded-octets packet is.octets; lawful = further.lawful 0; exact = further.exact }

-- numbers of the same octets
from_agree : (n i : ℕ) (xs ys : List ℕ) → ((k : ℕ) → k < n → slice_index xs (i + k) ≡ slice_index ys (i + k)) → big_from i n xs ≡ big_from i n ys
from_agree zero i xs ys agree = refl
from_agree (suc n) i xs ys agree =
    let here : slice_index xs i ≡ slice_index ys i = let none : i + 0 ≡ i = omega arith in subst (λ (k : ℕ). slice_index xs k ≡ slice_index ys k) none (agree 0 (omega arith)) in
    let next : (k : ℕ) → k < n → slice_index xs (suc i + k) ≡ slice_index ys (suc i + k) =
    λ k less. let same : i + suc k ≡ suc i + k = omega arith in subst (λ (j : ℕ). slice_index xs j ≡ slice_index ys j) same (agree (suc k) (omega (arith, less))) in
    ap₂ (λ (a b : ℕ). a * 256 ^ n + b) here (from_agree n (suc i) xs ys next)

big-agree : (n at : ℕ) (xs ys : List ℕ) → ((k : ℕ) → k < n → slice_index xs (at + k) ≡ slice_index ys (at + k)) → big n xs at ≡ big n ys at
big-agree n at xs ys agree =
    from_agree n 0 (drop at xs) (drop at ys)
    (λ k less. let none : 0 + k ≡ k = omega arith in
    subst (λ (j : ℕ). slice_index (drop at xs) j ≡ slice_index (drop at ys) j) (sym none) (get_or-drop at xs k 0 ∙ agree k less ∙ sym (get_or-drop at ys k 0)))

-- one hop further the source stays
further-source : (packet out : List ℕ) → Forwarded packet out → source_of (header_at out) ≡ source_of (header_at packet)
further-source packet out further = by (is_v4 packet) refl
  where
    by : (four : Bool) → is_v4 packet ≡ four → source_of (header_at out) ≡ source_of (header_at packet)
    by true four =
        let first : slice_index out 0 ≡ slice_index packet 0 = further.others 0 (rw four refl) in
        let four_out : is_v4 out ≡ true = ap (λ (octet : ℕ). eqb (octet / 16) 4) first ∙ four in
        let source : big 4 out 12 ≡ big 4 packet 12 =
        big-agree 4 12 out packet (λ k less. further.others (12 + k) (rw (four, ne_eqb (12 + k) 8 (λ e. omega (arith, e)), ne_eqb (12 + k) 10 (λ e. omega (arith, e)), ne_eqb (12 + k) 11 (λ e. omega (arith, e))) refl)) in
        rw (four_out, four) (ap family.V4 source)
    by false six =
        let first : slice_index out 0 ≡ slice_index packet 0 = further.others 0 (rw six refl) in
        let six_out : is_v4 out ≡ false = ap (λ (octet : ℕ). eqb (octet / 16) 4) first ∙ six in
        let source : big 16 out 8 ≡ big 16 packet 8 = big-agree 16 8 out packet (λ k less. further.others (8 + k) (rw (six, ne_eqb (8 + k) 7 (λ e. omega (arith, e))) refl)) in
        rw (six_out, six) (ap family.V6 source)

pub forwarded-source : (base : ℕ) (packet : List ℕ) → IsPacket base packet → first_failing (forward_rules packet) ≡ None → source_of (header_at (forwarded packet)) ≡ source_of (header_at packet)
forwarded-source base packet is pass =
    let alive : 1 < ttl_of (header_at packet) = ltb-true _ _ (all_hold (forward_rules packet) pass).0 in
    further-source packet (forwarded packet) (hop base packet is (omega (arith, alive)))

-- ### into a tunnel

-- behind the outer header
abbrev datagram_of : List ℕ → ℕ → LispHeader → List ℕ
datagram_of inner port lisp = datagram port 4341 0 (canonical lisp ++ forwarded inner)

length-datagram : (base : ℕ) (inner : List ℕ) (port : ℕ) (lisp : LispHeader) → IsPacket base inner → length (datagram_of inner port lisp) ≡ 16 + length inner
length-datagram base inner port lisp is = omega (arith, length-append (canonical lisp) (forwarded inner), length-forwarded base inner is.lawful)

datagram-are : (inner : List ℕ) (port : ℕ) (lisp : LispHeader) → lisp.key ≤ 3 → AreOctets inner → AreOctets (datagram_of inner port lisp)
datagram-are inner port lisp key are =
    datagram-octets port 4341 0 (canonical lisp ++ forwarded inner) (join (canonical lisp) (forwarded inner) (lisp-octets lisp key) (forwarded-octets inner are))

wrapped-v4 : (base : ℕ) (inner : List ℕ) (source dest port : ℕ) (lisp : LispHeader) → IsPacket base inner → length inner ≤ 1464 → lisp.key ≤ 3 → IsPacket 0 (canonical_v4 (outer_v4 inner source dest) ++ datagram_of inner port lisp)
wrapped-v4 base inner source dest port lisp is short key =
    let header = outer_v4 inner source dest in
    let behind : List ℕ = datagram_of inner port lisp in
    let size : length behind ≡ 16 + length inner = length-datagram base inner port lisp is in
    let class : header.tos < 256 = class-octet inner is.octets in
    let ttl : header.ttl < 256 = let fits = ttl-octet inner is.octets in omega (arith, fits) in
    let protocol : 17 < 256 = omega arith in
    whole-packet (canonical_v4 header ++ behind)
    (v4-whole header behind class ttl protocol (omega (arith, short)) (omega (arith, size)))
    (join (canonical_v4 header) behind (v4-octets header class ttl protocol) (datagram-are inner port lisp key is.octets))

wrapped-v6 : (base : ℕ) (inner : List ℕ) (source dest port : ℕ) (lisp : LispHeader) → IsPacket base inner → length inner ≤ 1464 → lisp.key ≤ 3 → IsPacket 0 (canonical_v6 (outer_v6 inner source dest) ++ datagram_of inner port lisp)
wrapped-v6 base inner source dest port lisp is short key =
    let header = outer_v6 inner source dest in
    let behind : List ℕ = datagram_of inner port lisp in
    let size : length behind ≡ 16 + length inner = length-datagram base inner port lisp is in
    let class : header.class < 256 = class-octet inner is.octets in
    let hops : header.hops < 256 = let fits = ttl-octet inner is.octets in omega (arith, fits) in
    let next : 17 < 256 = omega arith in
    whole-packet (canonical_v6 header ++ behind)
    (v6-whole header behind class (omega arith) (omega (arith, short)) size)
    (join (canonical_v6 header) behind (v6-octets header next hops) (datagram-are inner port lisp key is.octets))

pub wrapped-packet : (base : ℕ) (inner : List ℕ) (from to : Addr) (port : ℕ) (lisp : LispHeader) → IsPacket base inner → first_failing (encap_rules inner from) ≡ None → lisp.key ≤ 3 → IsPacket 0 (wrapped inner from to port lisp)
unfolding outer_header
wrapped-packet base inner (family.V4 source) to port lisp is pass key =
    let fits = (passed inner (family.V4 source) pass).1 in
    wrapped-v4 base inner source (number to) port lisp is (omega (arith, fits)) key
wrapped-packet base inner (family.V6 source) to port lisp is pass key =
    let fits = (passed inner (family.V6 source) pass).1 in
    wrapped-v6 base inner source (number to) port lisp is (omega (arith, fits)) key

-- it arrives as a packet in a tunnel
pub wrapped-arrives : (base : ℕ) (inner : List ℕ) (from to : Addr) (port : ℕ) (lisp : LispHeader) → IsPacket base inner → first_failing (encap_rules inner from) ≡ None → port < 2 ^ 16 → IsTunnelled (wrapped inner from to port lisp)
unfolding outer_header
wrapped-arrives base inner (family.V4 source) to port lisp is pass port_fits =
    let fits = (passed inner (family.V4 source) pass).1 in
    let payload : List ℕ = canonical lisp ++ forwarded inner in
    let front : List ℕ = canonical_v4 (outer_v4 inner source (number to)) in
    let size : 8 + length payload ≡ 16 + length inner = omega (arith, length-append (canonical lisp) (forwarded inner), length-forwarded base inner is.lawful) in
    tunnel-arrives (V4 (v4_at (front ++ datagram port 4341 0 payload))) front payload port port_fits (omega (arith, size, fits)) refl refl refl refl
wrapped-arrives base inner (family.V6 source) to port lisp is pass port_fits =
    let fits = (passed inner (family.V6 source) pass).1 in
    let payload : List ℕ = canonical lisp ++ forwarded inner in
    let header = outer_v6 inner source (number to) in
    let front : List ℕ = canonical_v6 header in
    let packet : List ℕ = front ++ datagram port 4341 0 payload in
    let size : 8 + length payload ≡ 16 + length inner = omega (arith, length-append (canonical lisp) (forwarded inner), length-forwarded base inner is.lawful) in
    let class : header.class < 256 = class-octet inner is.octets in
    let first : version packet ≡ 6 = omega (arith, class) in
    let four : is_v4 packet ≡ false = ap (λ (v : ℕ). eqb v 4) first in
    let value : header_at packet ≡ V6 (v6_at packet) = rw four refl in
    tunnel-arrives (V6 (v6_at packet)) front payload port port_fits (omega (arith, size, fits)) value refl refl refl

-- ### out of a tunnel

-- marks of two bits
small-mark : (inner outer : ℕ) → unwrap_or (ecn_of inner outer) 0 < 4
unfolding ecn_of
small-mark inner outer = grind (arith, common_steps)

pub delivered-packet : (base : ℕ) (outer : IpHeader) (inner : List ℕ) → IsPacket base inner → class_of outer < 256 → first_failing (deliver_rules inner outer) ≡ None → IsPacket 0 (delivered inner outer)
delivered-packet base outer inner is fits pass =
    let header = header_at inner in
    let left = leaves base outer inner is fits pass in
    let mark : unwrap_or (ecn_of (ecn header) (ecn outer)) 0 < 4 = small-mark (ecn header) (ecn outer) in
    let ttl : ttl_of header < 256 = ttl-octet inner is.octets in
    record {
      octets = marked-octets inner (new_class header outer) (lesser_ttl header outer - 1) (omega (arith, fits, mark)) (omega (arith, ttl)) is.octets;
      lawful = left.lawful 0;
      exact = left.exact;
    }
