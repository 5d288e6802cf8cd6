-- A part of a packet, in the fields of its header.
use Rattle.std.proofs.Common.{◌≡◌, ◌≤◌, ◌<◌, ◌+◌, ◌-◌, ◌/◌, ◌%◌, eqb, ℕ, suc, true, List, ◌∷◌, ◌++◌, All, fold, length, take, drop, slice_index, refl, ap, arith, length-append}
use Rattle.std.proofs.lemmas.List.{get_or-drop}
use Rattle.std.proofs.lemmas.List.Elements.{All-append, All-from_recursion}
use Rattle.octets.specs.Numbers.{big}
use Rattle.ip_headers.specs.Checksum.{checksum, ones_add, ones_sum, words}
use Rattle.ip_headers.specs.Ip.{header_len, is_v4}
use Rattle.ip_headers.proofs.SumLemmas.{AreWords, are_words, complete, fold-words_le, ones_add-complement, ones_add-le, word}
use Rattle.split_v4.specs.Halves.{front_with, option_octets, part_of, payload_of, summed}
use Rattle.split_v4.proofs.PartLemmas.{drop-front, take-front}

-- the sum over a header with its checksum
whole : (a b c d e f g h i j : ℕ) (rest : List ℕ) → All (λ octet. octet < 256) (a ∷ b ∷ c ∷ d ∷ e ∷ f ∷ g ∷ h ∷ i ∷ j ∷ 0 ∷ 0 ∷ rest)
    → ones_sum (summed (a ∷ b ∷ c ∷ d ∷ e ∷ f ∷ g ∷ h ∷ i ∷ j ∷ 0 ∷ 0 ∷ rest)) ≡ 65535
unfolding summed
whole a b c d e f g h i j rest all =
    let header = a ∷ b ∷ c ∷ d ∷ e ∷ f ∷ g ∷ h ∷ i ∷ j ∷ 0 ∷ 0 ∷ rest in
    let sum = ones_sum header in
    let front : List ℕ = words (take 10 header) in
    let back : List ℕ = words rest in
    let a_fits : a < 256 = all 0 0 (omega arith) in
    let b_fits : b < 256 = all 1 0 (omega arith) in
    let c_fits : c < 256 = all 2 0 (omega arith) in
    let d_fits : d < 256 = all 3 0 (omega arith) in
    let e_fits : e < 256 = all 4 0 (omega arith) in
    let f_fits : f < 256 = all 5 0 (omega arith) in
    let g_fits : g < 256 = all 6 0 (omega arith) in
    let h_fits : h < 256 = all 7 0 (omega arith) in
    let i_fits : i < 256 = all 8 0 (omega arith) in
    let j_fits : j < 256 = all 9 0 (omega arith) in
    let before : AreWords front = (omega arith, (omega arith, (omega arith, (omega arith, (omega arith, tt))))) in
    let after : AreWords back = are_words rest (λ (k m : ℕ) (below : k < length rest). all (suc (suc (suc (suc (suc (suc (suc (suc (suc (suc (suc (suc k)))))))))))) m (omega arith)) in
    let start : ℕ = fold ones_add 0 front in
    let small : start ≤ 65535 = fold-words_le front 0 before (omega arith) in
    let sum_small : sum ≤ 65535 = fold-words_le back (ones_add start 0) after (ones_add-le start 0 small (omega arith)) in
    rw (word (65535 - sum) (omega arith)) (complete start (65535 - sum) back small (omega arith) after (ones_add-complement sum sum_small))

-- what a part of a packet is made of
pub record IsInput (packet options payload : List ℕ) (flags : ℕ) : Type 0 where
  pub octets : All (λ octet. octet < 256) packet
  pub long : 20 ≤ length packet
  pub of_options : All (λ octet. octet < 256) options
  pub of_payload : All (λ octet. octet < 256) payload
  pub words : length options % 4 ≡ 0
  pub few : length options ≤ 40
  pub total : 20 + length options + length payload < 65536
  pub narrow : flags < 65536

-- the first octets of a header are octets
front-octets : (packet : List ℕ) (words total flags sum : ℕ) → All (λ octet. octet < 256) packet → 20 ≤ length packet → words ≤ 15 → All (λ octet. octet < 256) (front_with packet words total flags sum)
front-octets packet words total flags sum octets long few =
    All-from_recursion (λ octet. octet < 256) (front_with packet words total flags sum) (
      omega arith,
      (
        octets 1 0 (omega arith),
        (
          omega arith,
          (
            omega arith,
            (
              octets 4 0 (omega arith),
              (
                octets 5 0 (omega arith),
                (
                  omega arith,
                  (
                    omega arith,
                    (
                      octets 8 0 (omega arith),
                      (
                        octets 9 0 (omega arith),
                        (
                          omega arith,
                          (
                            omega arith,
                            (octets 12 0 (omega arith), (octets 13 0 (omega arith), (octets 14 0 (omega arith), (octets 15 0 (omega arith), (octets 16 0 (omega arith), (octets 17 0 (omega arith), (octets 18 0 (omega arith), (octets 19 0 (omega arith), tt)))))))),
                          ),
                        ),
                      ),
                    ),
                  ),
                ),
              ),
            ),
          ),
        ),
      ),
    )

-- the fields of a part of a packet
pub record IsMade (packet options payload : List ℕ) (flags : ℕ) (part : List ℕ) : Type 0 where
  pub octets : All (λ octet. octet < 256) part
  pub version : is_v4 part ≡ true
  pub header : header_len part ≡ 20 + length options
  pub size : length part ≡ 20 + length options + length payload
  pub total : big 2 part 2 ≡ length part
  pub flag_word : big 2 part 6 ≡ flags
  pub sum : ones_sum (take (header_len part) part) ≡ 65535
  pub behind : payload_of part ≡ payload
  pub between : option_octets part ≡ options
  pub id : big 2 part 4 ≡ big 2 packet 4
  pub source : big 4 part 12 ≡ big 4 packet 12
  pub dest : big 4 part 16 ≡ big 4 packet 16
  pub tos : slice_index part 1 ≡ slice_index packet 1
  pub ttl : slice_index part 8 ≡ slice_index packet 8
  pub protocol : slice_index part 9 ≡ slice_index packet 9

pub is_made : (packet options payload : List ℕ) (flags : ℕ) → IsInput packet options payload flags → IsMade packet options payload flags (part_of packet options flags payload)
unfolding summed
is_made packet options payload flags input =
    let size = length options in
    let count = (20 + size) / 4 in
    let total = 20 + size + length payload in
    let few : count ≤ 15 = omega (arith, input.few) in
    let blank = front_with packet count total flags 0 ++ options in
    let sum = checksum blank in
    let front : List ℕ = front_with packet count total flags sum in
    let header : List ℕ = front ++ options in
    let part : List ℕ = header ++ payload in
    let of_front = front-octets packet count total flags sum input.octets input.long few in
    let of_blank = All-append (λ octet. octet < 256) (front_with packet count total flags 0) options (front-octets packet count total flags 0 input.octets input.long few) input.of_options in
    let header_size : length header ≡ 20 + size = omega arith in
    let part_size : length part ≡ 20 + size + length payload = omega (arith, length-append header payload) in
    let len : header_len part ≡ 20 + size = omega (arith, input.few, input.words) in
    let four : (64 + count) / 16 ≡ 4 = omega (arith, few) in
    let whole_sum : ones_sum header ≡ 65535 =
    whole (64 + count) (slice_index packet 1) (total / 256 % 256) (total % 256) (slice_index packet 4) (slice_index packet 5) (flags / 256 % 256) (flags % 256) (slice_index packet 8) (slice_index packet 9) (drop 12 blank) of_blank in
    record {
      octets = All-append (λ octet. octet < 256) header payload (All-append (λ octet. octet < 256) front options of_front input.of_options) input.of_payload;
      version = ap (λ (n : ℕ). eqb n 4) four;
      header = len;
      size = part_size;
      total = omega (arith, part_size, input.total);
      flag_word = omega (arith, input.narrow);
      sum = rw (len, take-front (20 + size) header payload header_size) whole_sum;
      behind = rw len (drop-front (20 + size) header payload header_size);
      between = rw len (take-front (20 + size - 20) options payload (omega arith));
      id = rw (get_or-drop 4 packet 0 0, get_or-drop 4 packet 1 0) refl;
      source = rw (get_or-drop 12 packet 0 0, get_or-drop 12 packet 1 0, get_or-drop 12 packet 2 0, get_or-drop 12 packet 3 0) refl;
      dest = rw (get_or-drop 16 packet 0 0, get_or-drop 16 packet 1 0, get_or-drop 16 packet 2 0, get_or-drop 16 packet 3 0) refl;
      tos = refl;
      ttl = refl;
      protocol = refl;
    }
