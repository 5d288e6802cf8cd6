-- The headers inside an Encapsulated Control Message: what is spelled is read.
use Rattle.std.proofs.Common.{◌≡◌, inl, inr, ◌⊎◌, ◌≤◌, ℕ, ◌+◌, ◌==◌, Bool, true, false, List, ◌∷◌, length, drop, eqb, None, if◌then◌else◌, refl, sym, ap, subst, ◌∙◌, arith}
use Rattle.std.proofs.lemmas.Bool.{cases_Bool, eq-eqb, le-leb}
use Rattle.std.proofs.lemmas.List.{drop-drop}
use Rattle.byteorder.specs.Endian.{big_number}
use Rattle.octets.specs.Numbers.{big}
use Rattle.octets.specs.Rules.{first_failing}
use Rattle.octets.specs.declared.refused.Why.TheVariants.{InnerPort}
use Rattle.octets.proofs.RuleLemmas.{first_failing-append}
use Rattle.ip_headers.specs.Ip.{dest_of, header_at, ip_rules, is_fragment, is_v4, payload_place, protocol_of, source_of, Spells}
use Rattle.ip_headers.specs.Udp.{datagram_in, sum_rules, udp_at, udp_rules, udp_sum, SpellsUdp}
use Rattle.ip_headers.specs.declared.addr.Addr.{Addr}
use Rattle.ip_headers.specs.declared.header.IpHeader.{IpHeader}
use Rattle.ip_headers.specs.declared.header.UdpHeader.{UdpHeader}
use Rattle.ip_headers.proofs.CutPacket.{is_six, v4_facts, v4_rules, v6_facts, v6_rules}
use Rattle.ip_headers.proofs.OneValue.{one_header, one_udp_header, spelled}
use Rattle.mapping_records.specs.Address.{refused}
use Rattle.map_messages.specs.Control.{datagram_rules, udp_of}

-- the rules of IP pass at each base
pub any_base : (base other : ℕ) (octets : List ℕ) → first_failing (ip_rules base octets) ≡ None → first_failing (ip_rules other octets) ≡ None
any_base base other octets none =
    elim (cases_Bool (is_v4 octets)) [
      | inl four ↦ v4_rules other octets four (v4_facts base octets none four)
      | inr not_four ↦
          let six = is_six base octets none not_four in
          v6_rules other octets six (v6_facts base octets none six)
    ]

-- the header that is spelled is the one at the front
pub header_is : (base : ℕ) (octets : List ℕ) (header : IpHeader) → first_failing (ip_rules base octets) ≡ None → Spells octets header → header ≡ header_at octets
header_is base octets header none s = one_header octets header (header_at octets) s (spelled base octets none)

-- the UDP header at a place is spelled there
pub udp_at_spells : (at : ℕ) (octets : List ℕ) → SpellsUdp (drop at octets) (udp_at at octets)
udp_at_spells at octets = record {
  source = refl;
  dest = ap (λ (d : List ℕ). big_number 2 d) (drop-drop 2 at octets);
  length = ap (λ (d : List ℕ). big_number 2 d) (drop-drop 4 at octets);
  checksum = ap (λ (d : List ℕ). big_number 2 d) (drop-drop 6 at octets);
}

-- the UDP header that is spelled is that of the packet
pub udp_is : (header : IpHeader) (packet : List ℕ) (udp : UdpHeader) → udp.at ≡ payload_place header → SpellsUdp (drop udp.at packet) udp → udp ≡ udp_of header packet
udp_is header packet udp place s =
    one_udp_header (drop udp.at packet) udp (udp_at udp.at packet) s (udp_at_spells udp.at packet) refl
    ∙ ap (λ (at : ℕ). udp_at at packet) place

-- the checksum is right, or it is 0
abbrev pub sum_holds : Addr → Addr → List ℕ → UdpHeader → Bool
sum_holds from to packet udp = if udp.checksum == 0 then true else (udp_sum from to (datagram_in packet udp) == 65535)

-- a right sum, or none, passes
pub sum_right : (from to : Addr) (packet : List ℕ) (udp : UdpHeader) → (udp.checksum ≡ 0) ⊎ (udp_sum from to (datagram_in packet udp) ≡ 65535) → sum_holds from to packet udp ≡ true
sum_right from to packet udp (inl zero) = rw zero refl
sum_right from to packet udp (inr whole) =
    elim (cases_Bool (eqb udp.checksum 0)) [
      | inl zero ↦ rw zero refl
      | inr some ↦ rw (some, whole) refl
    ]

-- what is spelled of a datagram obeys its rules
pub datagram_passes : (base : ℕ) (header : IpHeader) (packet : List ℕ) (udp : UdpHeader) → udp ≡ udp_of header packet
    → protocol_of header ≡ 17 → is_fragment header ≡ false → 8 ≤ udp.length → udp.at + udp.length ≤ length packet → udp.dest ≡ 4342
    → sum_holds (source_of header) (dest_of header) packet udp ≡ true → first_failing (datagram_rules base header packet) ≡ None
unfolding datagram_rules
datagram_passes base header packet udp is protocol whole long fits port sum =
    let at = payload_place header in
    let there = udp_of header packet in
    let place : udp.at ≡ at = ap (λ (u : UdpHeader). u.at) is in
    let size : udp.length ≡ big 2 packet (at + 4) = ap (λ (u : UdpHeader). u.length) is in
    let front : first_failing (udp_rules base at packet) ≡ None =
    rw (
      le-leb (at + 8) (length packet) (omega (arith, place, long, fits)),
      le-leb 8 (big 2 packet (at + 4)) (omega (arith, size, long)),
      le-leb (at + big 2 packet (at + 4)) (length packet) (omega (arith, place, size, fits)),
    ) refl in
    let port_there : eqb there.dest 4342 ≡ true = eq-eqb there.dest 4342 (sym (ap (λ (u : UdpHeader). u.dest) is) ∙ port) in
    let sum_there : sum_holds (source_of header) (dest_of header) packet there ≡ true = subst (λ (u : UdpHeader). sum_holds (source_of header) (dest_of header) packet u ≡ true) is sum in
    let behind : first_failing ((there.dest == 4342, refused (base + (at + 2)) InnerPort) ∷ sum_rules base header packet there true) ≡ None = rw (port_there, sum_there) refl in
    rw (protocol, whole)
    (first_failing-append (udp_rules base at packet) ((there.dest == 4342, refused (base + (at + 2)) InnerPort) ∷ sum_rules base header packet there true) front ∙ behind)
