-- What was written is read again.
use Rattle.std.proofs.Common.{◌≡◌, ◌+◌, ℕ, true, false, List, [], ◌++◌, length, eqb, None, refl, ap, arith}
use Rattle.octets.specs.Numbers.{big}
use Rattle.octets.specs.Rules.{first_failing}
use Rattle.ip_headers.specs.Canonical.{canonical_v4, canonical_v6, InRangeV4, InRangeV6}
use Rattle.ip_headers.specs.Ip.{header_at, ip_rules, is_v4, is_v6}
use Rattle.ip_headers.specs.declared.header.IpHeader.TheVariants.{V4, V6}
use Rattle.ip_headers.specs.declared.header.V4Header.{V4Header}
use Rattle.ip_headers.specs.declared.header.V6Header.{V6Header}
use Rattle.ip_headers.proofs.CutPacket.{v4_rules, v6_rules, V4Facts, V6Facts}
use Rattle.ip_headers.proofs.Spelled.{ones_sum-canonical_v4, read_back, v4_at-canonical, v6_at-canonical, version-canonical_v6}

pub v4_obeys : (base : ℕ) (h : V4Header) (rest : List ℕ) → InRangeV4 h → 20 + length rest ≡ h.total → first_failing (ip_rules base (canonical_v4 h ++ rest)) ≡ None
v4_obeys base h rest range size =
    let octets = canonical_v4 h ++ rest in
    let len : length octets ≡ 20 + length rest = omega arith in
    let total : big 2 octets 2 ≡ h.total = read_back 2 h.total [] range.total in
    let facts : V4Facts octets = record {
      six = refl;
      long = omega (arith, len);
      words = omega arith;
      inside = omega (arith, total, size);
      total = omega (arith, total, size, len);
      sum = ap (λ (n : ℕ). eqb n 65535) (ones_sum-canonical_v4 h range);
    } in
    v4_rules base octets refl facts

pub header_at-canonical_v4 : (h : V4Header) (rest : List ℕ) → InRangeV4 h → header_at (canonical_v4 h ++ rest) ≡ V4 h
header_at-canonical_v4 h rest range = ap V4 (v4_at-canonical h rest range)

is_v6-canonical : (h : V6Header) (rest : List ℕ) → InRangeV6 h → is_v6 (canonical_v6 h ++ rest) ≡ true
is_v6-canonical h rest range = ap (λ (v : ℕ). eqb v 6) (version-canonical_v6 h rest range)

is_v4-canonical : (h : V6Header) (rest : List ℕ) → InRangeV6 h → is_v4 (canonical_v6 h ++ rest) ≡ false
is_v4-canonical h rest range = ap (λ (v : ℕ). eqb v 4) (version-canonical_v6 h rest range)

pub v6_obeys : (base : ℕ) (h : V6Header) (rest : List ℕ) → InRangeV6 h → length rest ≡ h.payload → first_failing (ip_rules base (canonical_v6 h ++ rest)) ≡ None
v6_obeys base h rest range size =
    let octets = canonical_v6 h ++ rest in
    let len : length octets ≡ 40 + length rest = omega arith in
    let payload : big 2 octets 4 ≡ h.payload = read_back 2 h.payload [] range.payload in
    let facts : V6Facts octets = record {
      four = is_v4-canonical h rest range;
      long = omega (arith, len);
      total = omega (arith, payload, size, len);
    } in
    v6_rules base octets (is_v6-canonical h rest range) facts

pub header_at-canonical_v6 : (h : V6Header) (rest : List ℕ) → InRangeV6 h → header_at (canonical_v6 h ++ rest) ≡ V6 h
header_at-canonical_v6 h rest range = rw (is_v4-canonical h rest range) (ap V6 (v6_at-canonical h rest range))
