-- An IP header that is written makes exactly one packet with the octets that it names, whatever its addresses are.
use Rattle.std.proofs.Common.{◌≡◌, ◌<◌, ◌≤◌, ◌+◌, ◌-◌, ℕ, List, [], ◌++◌, length, take, drop, fold, eqb, true, false, refl, sym, ap, ◌∙◌, arith}
use Rattle.octets.specs.Numbers.{big}
use Rattle.ip_headers.specs.Canonical.{canonical_v4, canonical_v6, spelled_v4}
use Rattle.ip_headers.specs.Checksum.{ones_add, ones_sum, words}
use Rattle.ip_headers.specs.Ip.{is_v4, is_v6, version}
use Rattle.ip_headers.specs.declared.header.V4Header.{V4Header}
use Rattle.ip_headers.specs.declared.header.V6Header.{V6Header}
use Rattle.ip_headers.proofs.CutPacket.{v4_rules, v6_rules, V4Facts, V6Facts}
use Rattle.ip_headers.proofs.Spelled.{read_back}
use Rattle.ip_headers.proofs.SumLemmas.{AreWords, complete, fold-words_le, ones_add-complement, ones_add-le, word}
use Rattle.audit_laws.specs.Whole.{IsWhole}

-- the sum over an IPv4 header
sum-v4 : (h : V4Header) → h.tos < 256 → h.ttl < 256 → h.protocol < 256 → ones_sum (canonical_v4 h) ≡ 65535
sum-v4 h tos ttl protocol =
    let blank = spelled_v4 h 0 in
    let sum = ones_sum blank in
    let front : List ℕ = words (take 10 blank) in
    let back : List ℕ = words (drop 12 blank) in
    let before : AreWords front = (omega (arith, tos), (omega arith, (omega arith, (omega arith, (omega (arith, ttl, protocol), tt))))) in
    let after : AreWords back = (omega arith, (omega arith, (omega arith, (omega arith, tt)))) in
    let start : ℕ = fold ones_add 0 front in
    let small : start ≤ 65535 = fold-words_le front 0 before (omega arith) in
    let whole_small : sum ≤ 65535 = fold-words_le back (ones_add start 0) after (ones_add-le start 0 small (omega arith)) in
    rw (word (65535 - sum) (omega arith)) (complete start (65535 - sum) back small (omega arith) after (ones_add-complement sum whole_small))

-- an IPv4 header in front of its payload
pub v4-whole : (h : V4Header) (rest : List ℕ) → h.tos < 256 → h.ttl < 256 → h.protocol < 256 → h.total < 65536 → 20 + length rest ≡ h.total → IsWhole (canonical_v4 h ++ rest)
v4-whole h rest tos ttl protocol small size =
    let octets = canonical_v4 h ++ rest in
    let len : length octets ≡ 20 + length rest = omega arith in
    let total : big 2 octets 2 ≡ h.total = read_back 2 h.total [] small in
    let facts : V4Facts octets = record {
      six = refl;
      long = omega (arith, len);
      words = omega arith;
      inside = omega (arith, total, size);
      total = omega (arith, total, size, len);
      sum = ap (λ (n : ℕ). eqb n 65535) (sum-v4 h tos ttl protocol);
    } in
    record { lawful = v4_rules 0 octets refl facts; exact = len ∙ size ∙ sym total; short = omega (arith, len, size, small) }

-- an IPv6 header in front of its payload
pub v6-whole : (h : V6Header) (rest : List ℕ) → h.class < 256 → h.flow < 1048576 → h.payload < 65536 → length rest ≡ h.payload → IsWhole (canonical_v6 h ++ rest)
v6-whole h rest class flow small size =
    let octets = canonical_v6 h ++ rest in
    let len : length octets ≡ 40 + length rest = omega arith in
    let payload : big 2 octets 4 ≡ h.payload = read_back 2 h.payload [] small in
    let first : version octets ≡ 6 = omega (arith, class, flow) in
    let four : is_v4 octets ≡ false = ap (λ (v : ℕ). eqb v 4) first in
    let six : is_v6 octets ≡ true = ap (λ (v : ℕ). eqb v 6) first in
    let facts : V6Facts octets = record { four = four; long = omega (arith, len); total = omega (arith, payload, size, len) } in
    record { lawful = v6_rules 0 octets six facts; exact = rw four (omega (arith, payload, size, len)); short = omega (arith, len, size, small) }
