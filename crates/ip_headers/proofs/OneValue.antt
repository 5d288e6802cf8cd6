-- Octets spell one header; what is written spells its own.
use Rattle.std.proofs.Common.{◌≡◌, ℕ, ◌<◌, ◌+◌, ◌^◌, List, [], ◌++◌, Bool, length, None, inl, inr, refl, sym, ap, subst, ◌∙◌, arith}
use Rattle.std.proofs.lemmas.Bool.{cases_Bool, eqb-true}
use Rattle.octets.specs.Rules.{first_failing}
use Rattle.ip_headers.specs.Ip.{header_at, ip_rules, is_v4, v4_at, v6_at, version, Spells, SpellsV4, SpellsV6}
use Rattle.ip_headers.specs.Canonical.{canonical_v4, canonical_v6, InRangeV4, InRangeV6}
use Rattle.ip_headers.specs.Udp.{canonical_udp, canonical_udp_header, InRangeUdp, SpellsUdp}
use Rattle.ip_headers.specs.declared.addr.Addr.{Addr}
use Rattle.ip_headers.specs.declared.header.IpHeader.{IpHeader}
use Rattle.ip_headers.specs.declared.header.IpHeader.TheVariants.{V4, V6}
use Rattle.ip_headers.specs.declared.header.UdpHeader.{UdpHeader}
use Rattle.ip_headers.specs.declared.header.V4Header.{V4Header}
use Rattle.ip_headers.specs.declared.header.V6Header.{V6Header}
use Rattle.ip_headers.proofs.CutPacket.{is_six}
use Rattle.ip_headers.proofs.Spelled.{read_back, v4_at-canonical, v6_at-canonical, version-canonical_v6}
use Rattle.ip_headers.proofs.UdpReadAgain.{checksum_fits, checksum_of}

v4_at-spelled : (octets : List ℕ) (h : V4Header) → SpellsV4 octets h → v4_at octets ≡ h
v4_at-spelled octets h s =
    rw (s.source, s.dest, s.tos, s.total, s.id, s.dont_fragment, s.more, s.offset, s.ttl, s.protocol, s.words) refl

v6_at-spelled : (octets : List ℕ) (h : V6Header) → SpellsV6 octets h → v6_at octets ≡ h
v6_at-spelled octets h s = rw (s.source, s.dest, s.class, s.flow, s.payload, s.next, s.hops) refl

pub one_header : (octets : List ℕ) (a b : IpHeader) → Spells octets a → Spells octets b → a ≡ b
one_header octets (V4 a) (V4 b) s t = ap V4 (sym (v4_at-spelled octets a s) ∙ v4_at-spelled octets b t)
one_header octets (V6 a) (V6 b) s t = ap V6 (sym (v6_at-spelled octets a s) ∙ v6_at-spelled octets b t)
one_header octets (V4 a) (V6 b) s t = absurd (omega (arith, s.version, t.version))
one_header octets (V6 a) (V4 b) s t = absurd (omega (arith, s.version, t.version))

spelled_v4 : (octets : List ℕ) → version octets ≡ 4 → SpellsV4 octets (v4_at octets)
spelled_v4 octets four = record { version = four; words = refl; tos = refl; total = refl; id = refl; dont_fragment = refl; more = refl; offset = refl; ttl = refl; protocol = refl; source = refl; dest = refl }

spelled_v6 : (octets : List ℕ) → version octets ≡ 6 → SpellsV6 octets (v6_at octets)
spelled_v6 octets six = record { version = six; class = refl; flow = refl; payload = refl; next = refl; hops = refl; source = refl; dest = refl }

pub spelled : (base : ℕ) (octets : List ℕ) → first_failing (ip_rules base octets) ≡ None → Spells octets (header_at octets)
spelled base octets none =
    elim (cases_Bool (is_v4 octets)) [
      | inl four ↦ rw four (spelled_v4 octets (eqb-true _ _ four))
      | inr other ↦ rw other (spelled_v6 octets (eqb-true _ _ (is_six base octets none other)))
    ]

pub one_udp_header : (octets : List ℕ) (a b : UdpHeader) → SpellsUdp octets a → SpellsUdp octets b → a.at ≡ b.at → a ≡ b
one_udp_header octets a b s t place =
    rw (sym s.source ∙ t.source, sym s.dest ∙ t.dest, sym s.length ∙ t.length, sym s.checksum ∙ t.checksum, place) refl

pub spells-canonical_v4 : (h : V4Header) (rest : List ℕ) → InRangeV4 h → SpellsV4 (canonical_v4 h ++ rest) h
spells-canonical_v4 h rest range =
    subst (SpellsV4 (canonical_v4 h ++ rest)) (v4_at-canonical h rest range) (spelled_v4 (canonical_v4 h ++ rest) refl)

pub spells-canonical_v6 : (h : V6Header) (rest : List ℕ) → InRangeV6 h → SpellsV6 (canonical_v6 h ++ rest) h
spells-canonical_v6 h rest range =
    subst (SpellsV6 (canonical_v6 h ++ rest)) (v6_at-canonical h rest range) (spelled_v6 (canonical_v6 h ++ rest) (version-canonical_v6 h rest range))

pub spells-canonical_udp_header : (udp : UdpHeader) (rest : List ℕ) → InRangeUdp udp → SpellsUdp (canonical_udp_header udp ++ rest) udp
spells-canonical_udp_header udp rest range = record {
  source = read_back 2 udp.source [] range.source;
  dest = read_back 2 udp.dest [] range.dest;
  length = read_back 2 udp.length [] range.length;
  checksum = read_back 2 udp.checksum [] range.checksum;
}

pub spells-canonical_udp : (from to : Addr) (source dest at : ℕ) (payload : List ℕ) (summed : Bool) (rest : List ℕ)
    → source < 2 ^ 16 → dest < 2 ^ 16 → 8 + length payload < 2 ^ 16
    → SpellsUdp (canonical_udp from to source dest payload summed ++ rest)
    record { source = source; dest = dest; length = 8 + length payload; checksum = checksum_of from to source dest payload summed; at = at }
spells-canonical_udp from to source dest at payload summed rest s d size =
    spells-canonical_udp_header
    (record { source = source; dest = dest; length = 8 + length payload; checksum = checksum_of from to source dest payload summed; at = at })
    (payload ++ rest)
    (record { source = s; dest = d; length = size; checksum = checksum_fits from to source dest payload summed })
