-- The rules of a packet as facts on its numbers, and the packet without its padding.
use Rattle.std.proofs.Common.{◌≡◌, ◌≤◌, ◌+◌, ◌*◌, ◌%◌, ℕ, List, take, length, slice_index, Bool, true, false, None, refl, ap, ◌∙◌, ◌&&◌, arith, leb, eqb}
use Rattle.std.proofs.lemmas.Bool.{le-leb, leb-true}
use Rattle.std.proofs.lemmas.Grind.{common_steps}
use Rattle.std.proofs.lemmas.List.{length-take, take-take}
use Rattle.octets.specs.Numbers.{big}
use Rattle.octets.specs.Rules.{first_failing}
use Rattle.octets.proofs.Fronts.{big-take, slice_index-take}
use Rattle.octets.proofs.RuleLemmas.{all_hold}
use Rattle.ip_headers.specs.Checksum.{ones_sum}
use Rattle.ip_headers.specs.Ip.{header_at, header_len, ip_rules, is_v4, is_v6, packet_len, v4_at, v6_at, version}
use Rattle.ip_headers.specs.declared.header.IpHeader.{IpHeader}
use Rattle.ip_headers.specs.declared.header.IpHeader.TheVariants.{V4, V6}

-- both halves of a test hold
pub both_hold : (a b : Bool) → (a && b) ≡ true → (a ≡ true) × (b ≡ true)
both_hold true b holds = (refl, holds)
both_hold false b holds = cc

-- no packet is of both versions
four_not_six : (n : ℕ) → eqb n 4 ≡ true → eqb n 6 ≡ false
four_not_six n four = grind (arith, common_steps)

six_not_four : (n : ℕ) → eqb n 6 ≡ true → eqb n 4 ≡ false
six_not_four n six = grind (arith, common_steps)

-- what the rules say of an IPv4 packet
pub record V4Facts (octets : List ℕ) : Type 0 where
  pub six : is_v6 octets ≡ false
  pub long : 20 ≤ length octets
  pub words : 20 ≤ header_len octets
  pub inside : header_len octets ≤ big 2 octets 2
  pub total : big 2 octets 2 ≤ length octets
  pub sum : eqb (ones_sum (take (header_len octets) octets)) 65535 ≡ true

pub v4_facts : (base : ℕ) (octets : List ℕ) → first_failing (ip_rules base octets) ≡ None → is_v4 octets ≡ true → V4Facts octets
v4_facts base octets none four =
    let all = all_hold (ip_rules base octets) none in
    let six : is_v6 octets ≡ false = four_not_six (version octets) four in
    let sizes = both_hold (leb (header_len octets) (big 2 octets 2)) (leb (big 2 octets 2) (length octets)) (rw six at all.1.1.1.1.1.0) in
    record {
      six = six;
      long = leb-true _ _ (rw six at all.1.1.0);
      words = leb-true _ _ (rw six at all.1.1.1.0);
      inside = leb-true _ _ sizes.0;
      total = leb-true _ _ sizes.1;
      sum = rw six at all.1.1.1.1.1.1.0;
    }

pub v4_rules : (base : ℕ) (octets : List ℕ) → is_v4 octets ≡ true → V4Facts octets → first_failing (ip_rules base octets) ≡ None
v4_rules base octets four facts =
    let some : leb 1 (length octets) ≡ true = le-leb 1 (length octets) (omega (arith, facts.long)) in
    let whole : leb (header_len octets) (length octets) ≡ true = le-leb (header_len octets) (length octets) (omega (arith, facts.inside, facts.total)) in
    rw (
      some,
      four,
      facts.six,
      le-leb 20 (length octets) facts.long,
      le-leb 20 (header_len octets) facts.words,
      whole,
      le-leb (header_len octets) (big 2 octets 2) facts.inside,
      le-leb (big 2 octets 2) (length octets) facts.total,
      facts.sum,
    ) refl

-- what the rules say of an IPv6 packet
pub record V6Facts (octets : List ℕ) : Type 0 where
  pub four : is_v4 octets ≡ false
  pub long : 40 ≤ length octets
  pub total : big 2 octets 4 + 40 ≤ length octets

pub v6_facts : (base : ℕ) (octets : List ℕ) → first_failing (ip_rules base octets) ≡ None → is_v6 octets ≡ true → V6Facts octets
v6_facts base octets none six =
    let all = all_hold (ip_rules base octets) none in
    let four : is_v4 octets ≡ false = six_not_four (version octets) six in
    record {
      four = four;
      long = leb-true _ _ (rw four at all.1.1.1.1.1.1.1.0);
      total = leb-true _ _ (rw four at all.1.1.1.1.1.1.1.1.0);
    }

pub v6_rules : (base : ℕ) (octets : List ℕ) → is_v6 octets ≡ true → V6Facts octets → first_failing (ip_rules base octets) ≡ None
v6_rules base octets six facts =
    let some : leb 1 (length octets) ≡ true = le-leb 1 (length octets) (omega (arith, facts.long)) in
    rw (some, facts.four, six, le-leb 40 (length octets) facts.long, le-leb (big 2 octets 4 + 40) (length octets) facts.total) refl

-- what isn't IPv4 is IPv6
pub is_six : (base : ℕ) (octets : List ℕ) → first_failing (ip_rules base octets) ≡ None → is_v4 octets ≡ false → is_v6 octets ≡ true
is_six base octets none other =
    let all = all_hold (ip_rules base octets) none in
    rw other at all.1.0

-- the octets are exactly a packet with that header, in the front of others
pub record IsCut (base : ℕ) (octets packet : List ℕ) (header : IpHeader) : Type 0 where
  pub lawful : first_failing (ip_rules base packet) ≡ None
  pub spells : header ≡ header_at packet
  pub exact : length packet ≡ packet_len header
  pub within : packet_len header ≤ length octets

pub v4_cut : (base : ℕ) (octets : List ℕ) → first_failing (ip_rules base octets) ≡ None → is_v4 octets ≡ true
    → IsCut base octets (take (big 2 octets 2) octets) (V4 (v4_at octets))
v4_cut base octets none four =
    let facts = v4_facts base octets none four in
    let n = big 2 octets 2 in
    let packet = take n octets in
    let enough : 20 ≤ n = omega (arith, facts.words, facts.inside) in
    let size : length packet ≡ n = omega (arith, length-take n octets, facts.total) in
    let first : slice_index packet 0 ≡ slice_index octets 0 = slice_index-take n 0 octets (omega arith) in
    let same_four : is_v4 packet ≡ true = rw first four in
    let same_len : header_len packet ≡ header_len octets = ap (λ (octet : ℕ). octet % 16 * 4) first in
    let same_total : big 2 packet 2 ≡ n = big-take 2 2 n octets (omega arith) in
    let same_header : take (header_len packet) packet ≡ take (header_len octets) octets =
    ap (λ (k : ℕ). take k packet) same_len ∙ take-take (header_len octets) n octets facts.inside in
    let packet_facts : V4Facts packet = record {
      six = rw first facts.six;
      long = omega (arith, size);
      words = omega (arith, same_len, facts.words);
      inside = omega (arith, same_len, same_total, facts.inside);
      total = omega (arith, same_total, size);
      sum = ap (λ (header : List ℕ). eqb (ones_sum header) 65535) same_header ∙ facts.sum;
    } in
    record {
      lawful = v4_rules base packet same_four packet_facts;
      spells = rw (
        same_four,
        first,
        slice_index-take n 1 octets (omega arith),
        slice_index-take n 8 octets (omega arith),
        slice_index-take n 9 octets (omega arith),
        same_total,
        big-take 2 4 n octets (omega arith),
        big-take 2 6 n octets (omega arith),
        big-take 4 12 n octets (omega arith),
        big-take 4 16 n octets (omega arith),
      ) refl;
      exact = size;
      within = facts.total;
    }

pub v6_cut : (base : ℕ) (octets : List ℕ) → first_failing (ip_rules base octets) ≡ None → is_v6 octets ≡ true
    → IsCut base octets (take (big 2 octets 4 + 40) octets) (V6 (v6_at octets))
v6_cut base octets none six =
    let facts = v6_facts base octets none six in
    let n = big 2 octets 4 + 40 in
    let packet = take n octets in
    let enough : 40 ≤ n = omega arith in
    let size : length packet ≡ n = omega (arith, length-take n octets, facts.total) in
    let first : slice_index packet 0 ≡ slice_index octets 0 = slice_index-take n 0 octets (omega arith) in
    let same_six : is_v6 packet ≡ true = rw first six in
    let not_four : is_v4 packet ≡ false = rw first facts.four in
    let same_payload : big 2 packet 4 ≡ big 2 octets 4 = big-take 2 4 n octets (omega arith) in
    let packet_facts : V6Facts packet = record { four = not_four; long = omega (arith, size); total = omega (arith, same_payload, size) } in
    record {
      lawful = v6_rules base packet same_six packet_facts;
      spells = rw (
        not_four,
        slice_index-take n 6 octets (omega arith),
        slice_index-take n 7 octets (omega arith),
        big-take 2 0 n octets (omega arith),
        big-take 4 0 n octets (omega arith),
        same_payload,
        big-take 16 8 n octets (omega arith),
        big-take 16 24 n octets (omega arith),
      ) refl;
      exact = size;
      within = facts.total;
    }
