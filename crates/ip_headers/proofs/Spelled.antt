-- What is written spells what was written.
use Rattle.std.proofs.Common.{◌≡◌, ◌<◌, ◌≤◌, ◌^◌, ℕ, ◌+◌, ◌-◌, ◌*◌, ◌/◌, ◌%◌, Bool, true, false, List, [], ◌++◌, take, drop, fold, eqb, refl, sym, ap, arith}
use Rattle.byteorder.specs.Numbers.{big_number-reads_back}
use Rattle.octets.specs.Numbers.{big, big_octets, flag}
use Rattle.ip_headers.specs.Ip.{v4_at, v6_at, version}
use Rattle.ip_headers.specs.Checksum.{ones_add, ones_sum, words}
use Rattle.ip_headers.specs.Canonical.{canonical_v4, canonical_v6, spelled_v4, v4_flags, v6_first, InRangeV4, InRangeV6}
use Rattle.ip_headers.specs.declared.header.V4Header.{V4Header}
use Rattle.ip_headers.specs.declared.header.V6Header.{V6Header}
use Rattle.ip_headers.proofs.SumLemmas.{AreWords, complete, fold-words_le, ones_add-complement, ones_add-le, word}

-- the number in its own octets
pub read_back : (n x : ℕ) (rest : List ℕ) → x < 256 ^ n → big n (big_octets n x ++ rest) 0 ≡ x
read_back n x rest fits = big_number-reads_back n x rest fits

is_one : (n : ℕ) → n ≡ 1 → eqb n 1 ≡ true
is_one n e = ap (λ (k : ℕ). eqb k 1) e

is_zero : (n : ℕ) → n ≡ 0 → eqb n 1 ≡ false
is_zero n e = ap (λ (k : ℕ). eqb k 1) e

-- the flags and the offset in one word
abbrev flags_word : Bool → Bool → ℕ → ℕ
flags_word dont more offset = flag dont 16384 + flag more 8192 + offset

first_flag : (dont more : Bool) (offset : ℕ) → offset < 8192 → eqb (flags_word dont more offset / 16384 % 2) 1 ≡ dont
first_flag true true offset below = is_one _ (omega arith)
first_flag true false offset below = is_one _ (omega arith)
first_flag false true offset below = is_zero _ (omega arith)
first_flag false false offset below = is_zero _ (omega arith)

second_flag : (dont more : Bool) (offset : ℕ) → offset < 8192 → eqb (flags_word dont more offset / 8192 % 2) 1 ≡ more
second_flag true true offset below = is_one _ (omega arith)
second_flag true false offset below = is_zero _ (omega arith)
second_flag false true offset below = is_one _ (omega arith)
second_flag false false offset below = is_zero _ (omega arith)

offset_of : (dont more : Bool) (offset : ℕ) → offset < 8192 → flags_word dont more offset % 8192 ≡ offset
offset_of true true offset below = omega arith
offset_of true false offset below = omega arith
offset_of false true offset below = omega arith
offset_of false false offset below = omega arith

flags_fit : (dont more : Bool) (offset : ℕ) → offset < 8192 → flags_word dont more offset < 65536
flags_fit true true offset below = omega arith
flags_fit true false offset below = omega arith
flags_fit false true offset below = omega arith
flags_fit false false offset below = omega arith

pub v4_at-canonical : (h : V4Header) (rest : List ℕ) → InRangeV4 h → v4_at (canonical_v4 h ++ rest) ≡ h
v4_at-canonical h rest range =
    let fits = flags_fit h.dont_fragment h.more h.offset range.offset in
    rw (
      read_back 4 h.source [] range.source,
      read_back 4 h.dest [] range.dest,
      read_back 2 h.total [] range.total,
      read_back 2 h.id [] range.id,
      read_back 2 (v4_flags h) [] fits,
      first_flag h.dont_fragment h.more h.offset range.offset,
      second_flag h.dont_fragment h.more h.offset range.offset,
      offset_of h.dont_fragment h.more h.offset range.offset,
    ) (ap (λ (n : ℕ). record h { header_len = n }) (sym range.plain))

pub ones_sum-canonical_v4 : (h : V4Header) → InRangeV4 h → ones_sum (canonical_v4 h) ≡ 65535
ones_sum-canonical_v4 h range =
    let blank = spelled_v4 h 0 in
    let sum = ones_sum blank in
    let front : List ℕ = words (take 10 blank) in
    let back : List ℕ = words (drop 12 blank) in
    let before : AreWords front = (omega (arith, range.tos), (omega arith, (omega arith, (omega arith, (omega (arith, range.ttl, range.protocol), tt))))) in
    let after : AreWords back = (omega arith, (omega arith, (omega arith, (omega arith, tt)))) in
    let start : ℕ = fold ones_add 0 front in
    let small : start ≤ 65535 = fold-words_le front 0 before (omega arith) in
    let whole_small : sum ≤ 65535 = fold-words_le back (ones_add start 0) after (ones_add-le start 0 small (omega arith)) in
    rw (word (65535 - sum) (omega arith)) (complete start (65535 - sum) back small (omega arith) after (ones_add-complement sum whole_small))

-- the class and the label out of the first word
class_of : (class flow : ℕ) → class < 256 → flow < 1048576
    → ((6 * 2 ^ 28 + class * 2 ^ 20 + flow) / 16777216 % 256 * 256 + ((6 * 2 ^ 28 + class * 2 ^ 20 + flow) / 65536 % 256 * 1 + 0)) / 16 % 256 ≡ class
class_of class flow narrow short = omega arith

flow_of : (class flow : ℕ) → class < 256 → flow < 1048576 → (6 * 2 ^ 28 + class * 2 ^ 20 + flow) % 1048576 ≡ flow
flow_of class flow narrow short = omega arith

first_fits : (class flow : ℕ) → class < 256 → flow < 1048576 → 6 * 2 ^ 28 + class * 2 ^ 20 + flow < 4294967296
first_fits class flow narrow short = omega arith

pub v6_at-canonical : (h : V6Header) (rest : List ℕ) → InRangeV6 h → v6_at (canonical_v6 h ++ rest) ≡ h
v6_at-canonical h rest range =
    rw (
      read_back 16 h.source [] range.source,
      read_back 16 h.dest [] range.dest,
      read_back 2 h.payload [] range.payload,
      class_of h.class h.flow range.class range.flow,
      read_back 4 (v6_first h) [] (first_fits h.class h.flow range.class range.flow),
      flow_of h.class h.flow range.class range.flow,
    ) refl

-- the version in the first word
pub version-canonical_v6 : (h : V6Header) (rest : List ℕ) → InRangeV6 h → version (canonical_v6 h ++ rest) ≡ 6
version-canonical_v6 h rest range = omega (arith, range.class, range.flow)
