-- An IPv4 packet with other marks.
use Rattle.std.proofs.Common.{◌≡◌, ◌≤◌, ◌<◌, ◌+◌, ◌-◌, ◌*◌, ◌/◌, ◌%◌, ◌||◌, eqb, ℕ, suc, List, ◌∷◌, All, length, take, fold, slice_index, slice_set, true, false, refl, ap, ◌∙◌, arith}
use Rattle.std.proofs.Math.Seq.{take-set-lt}
use Rattle.std.proofs.lemmas.Bool.{eqb-false, or_parts}
use Rattle.std.proofs.lemmas.List.{length-take, get_or-take, get_or-set_other}
use Rattle.octets.specs.Numbers.{big}
use Rattle.ip_headers.specs.Checksum.{checksum, ones_add, ones_sum, words}
use Rattle.ip_headers.specs.Ip.{header_len, is_v4}
use Rattle.ip_headers.specs.Packet.{IsPacket}
use Rattle.ip_headers.proofs.CutPacket.{v4_facts, v4_rules, V4Facts}
use Rattle.ip_headers.proofs.SumLemmas.{AreWords, are_words, complete, fold-words_le, ones_add-complement, ones_add-le}
use Rattle.decap.specs.Delivered.{v4_marked, v4_with}
use Rattle.decap.proofs.Lengths.{length-v4_with}
use Rattle.decap.proofs.Marks.{Marks}

-- the other octets stay
slice_index-v4_with : (packet : List ℕ) (class ttl sum k : ℕ) → (eqb k 1 || eqb k 8 || eqb k 10 || eqb k 11) ≡ false
    → slice_index (v4_with packet class ttl sum) k ≡ slice_index packet k
slice_index-v4_with packet class ttl sum k same =
    let a = or_parts (eqb k 1 || eqb k 8 || eqb k 10) (eqb k 11) same in
    let b = or_parts (eqb k 1 || eqb k 8) (eqb k 10) a.0 in
    let d = or_parts (eqb k 1) (eqb k 8) b.0 in
    let one = slice_set packet 1 class in
    let two = slice_set one 8 ttl in
    let three = slice_set two 10 (sum / 256) in
    get_or-set_other three 11 k (sum % 256) 0 (eqb-false k 11 a.1) ∙ get_or-set_other two 10 k (sum / 256) 0 (eqb-false k 10 b.1)
    ∙ get_or-set_other one 8 k ttl 0 (eqb-false k 8 d.1) ∙ get_or-set_other packet 1 k class 0 (eqb-false k 1 d.0)

-- the fields in the first twelve octets
record Front (packet : List ℕ) (class ttl sum : ℕ) : Type 0 where
  pub first : slice_index (v4_with packet class ttl sum) 0 ≡ slice_index packet 0
  pub tos : slice_index (v4_with packet class ttl sum) 1 ≡ class
  pub ttl_is : slice_index (v4_with packet class ttl sum) 8 ≡ ttl
  pub total : big 2 (v4_with packet class ttl sum) 2 ≡ big 2 packet 2

front : (packet : List ℕ) (class ttl sum : ℕ) → 12 ≤ length packet → Front packet class ttl sum
front (a ∷ b ∷ c ∷ d ∷ e ∷ f ∷ g ∷ h ∷ i ∷ j ∷ k ∷ l ∷ rest) class ttl sum long = record { first = refl; tos = refl; ttl_is = refl; total = refl }
front packet class ttl sum long = absurd (omega arith)

-- marks in the front of a packet
take-v4_with : (packet : List ℕ) (n class ttl sum : ℕ) → 12 ≤ n → take n (v4_with packet class ttl sum) ≡ v4_with (take n packet) class ttl sum
take-v4_with packet n class ttl sum long =
    rw (
      take-set-lt n (slice_set (slice_set (slice_set packet 1 class) 8 ttl) 10 (sum / 256)) 11 (sum % 256) (omega arith),
      take-set-lt n (slice_set (slice_set packet 1 class) 8 ttl) 10 (sum / 256) (omega arith),
      take-set-lt n (slice_set packet 1 class) 8 ttl (omega arith),
      take-set-lt n packet 1 class (omega arith),
    ) refl

-- the word in two octets
word : (x : ℕ) → x / 256 * 256 + x % 256 ≡ x
word x = omega arith

-- a checksum over a header makes its sum whole
whole : (header : List ℕ) (class ttl : ℕ) → 12 ≤ length header → All (λ octet. octet < 256) header → class < 256 → ttl < 256
    → ones_sum (v4_with header class ttl (checksum (v4_with header class ttl 0))) ≡ 65535
whole (a ∷ b ∷ c ∷ d ∷ e ∷ f ∷ g ∷ h ∷ i ∷ j ∷ k ∷ l ∷ rest) class ttl long all class_fits ttl_fits =
    let blank = v4_with (a ∷ b ∷ c ∷ d ∷ e ∷ f ∷ g ∷ h ∷ i ∷ j ∷ k ∷ l ∷ rest) class ttl 0 in
    let sum = ones_sum blank in
    let front : List ℕ = words (take 10 blank) in
    let back : List ℕ = words rest in
    let a_fits : a < 256 = all 0 0 (omega arith) in
    let c_fits : c < 256 = all 2 0 (omega arith) in
    let d_fits : d < 256 = all 3 0 (omega arith) in
    let e_fits : e < 256 = all 4 0 (omega arith) in
    let f_fits : f < 256 = all 5 0 (omega arith) in
    let g_fits : g < 256 = all 6 0 (omega arith) in
    let h_fits : h < 256 = all 7 0 (omega arith) in
    let j_fits : j < 256 = all 9 0 (omega arith) in
    let before : AreWords front = (omega arith, (omega arith, (omega arith, (omega arith, (omega arith, tt))))) in
    let after : AreWords back = are_words rest (λ (m o : ℕ) (below : m < length rest). all (suc (suc (suc (suc (suc (suc (suc (suc (suc (suc (suc (suc m)))))))))))) o (omega arith)) in
    let start : ℕ = fold ones_add 0 front in
    let small : start ≤ 65535 = fold-words_le front 0 before (omega arith) in
    let sum_small : sum ≤ 65535 = fold-words_le back (ones_add start 0) after (ones_add-le start 0 small (omega arith)) in
    rw (word (65535 - sum)) (complete start (65535 - sum) back small (omega arith) after (ones_add-complement sum sum_small))
whole header class ttl long all class_fits ttl_fits = absurd (omega arith)

-- the marks, with any checksum that makes the sum whole
with_sum : (base : ℕ) (packet : List ℕ) (class ttl sum : ℕ) → IsPacket base packet → is_v4 packet ≡ true
    → ones_sum (take (header_len packet) (v4_with packet class ttl sum)) ≡ 65535 → Marks packet class ttl (v4_with packet class ttl sum)
with_sum base packet class ttl sum is_packet four is_whole =
    let out = v4_with packet class ttl sum in
    let f = v4_facts base packet is_packet.lawful four in
    let fields = front packet class ttl sum (omega (arith, f.long)) in
    let size : length out ≡ length packet = length-v4_with packet class ttl sum in
    let four_out : is_v4 out ≡ true = rw fields.first four in
    let len : header_len out ≡ header_len packet = ap (λ (x : ℕ). x % 16 * 4) fields.first in
    let exact : length packet ≡ big 2 packet 2 = rw four at is_packet.exact in
    let sum_out : ones_sum (take (header_len out) out) ≡ 65535 = rw len is_whole in
    let facts : V4Facts out = record {
      six = rw fields.first f.six;
      long = omega (arith, f.long);
      words = omega (arith, f.words);
      inside = omega (arith, f.inside, fields.total);
      total = omega (arith, f.total, fields.total);
      sum = ap (λ (n : ℕ). eqb n 65535) sum_out;
    } in record {
      same_length = size;
      class_is = rw four_out fields.tos;
      ttl_is = rw four_out fields.ttl_is;
      version = rw fields.first refl;
      flow_label = λ v6. absurd (cc);
      others = λ k same. slice_index-v4_with packet class ttl sum k (rw four at same);
      checksum = λ v4. sum_out;
      lawful = λ at. v4_rules at out four_out facts;
      exact = rw four_out (omega (arith, fields.total));
    }

pub v4_marks : (base : ℕ) (packet : List ℕ) (class ttl : ℕ) → IsPacket base packet → is_v4 packet ≡ true → class < 256 → ttl < 256
    → Marks packet class ttl (v4_marked packet class ttl)
unfolding v4_marked
v4_marks base packet class ttl is_packet four class_fits ttl_fits =
    let f = v4_facts base packet is_packet.lawful four in
    let n = header_len packet in
    let header = take n packet in
    let size : length header ≡ n = omega (arith, length-take n packet, f.inside, f.total) in
    let octets : All (λ octet. octet < 256) header =
    λ (k d : ℕ) (below : k < length header). rw (get_or-take n packet k d (omega arith)) (is_packet.octets k d (omega (arith, f.inside, f.total))) in
    let long : 12 ≤ n = omega (arith, f.words) in
    let sum : ℕ = checksum (take n (v4_with packet class ttl 0)) in
    let same : sum ≡ checksum (v4_with header class ttl 0) = ap checksum (take-v4_with packet n class ttl 0 long) in
    with_sum base packet class ttl sum is_packet four
    (ap ones_sum (take-v4_with packet n class ttl sum long) ∙ ap (λ (s : ℕ). ones_sum (v4_with header class ttl s)) same ∙ whole header class ttl (omega arith) octets class_fits ttl_fits)
