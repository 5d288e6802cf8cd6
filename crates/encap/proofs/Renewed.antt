-- The octets of a renewed IPv4 header.
use Rattle.std.proofs.Common.{◌≡◌, ◌≤◌, ◌<◌, ◌+◌, ◌-◌, ◌/◌, ◌%◌, ◌||◌, eqb, ltb, ltb-true, ltb-false, ℕ, zero, suc, List, ◌∷◌, ◌++◌, All, length, take, drop, fold, slice_index, Bool, false, inl, inr, refl, sym, ap, ◌∙◌, arith, append_assoc}
use Rattle.std.proofs.lemmas.Bool.{cases_Bool}
use Rattle.std.proofs.lemmas.List.{drop-drop, length-take, take-take, take-append-drop, get_or-drop, get_or_append_left, get_or-append_right}
use Rattle.octets.specs.Numbers.{big, big_octets}
use Rattle.octets.proofs.Fronts.{slice_index-take, drop-front}
use Rattle.ip_headers.specs.Checksum.{ones_add, ones_sum, words}
use Rattle.ip_headers.proofs.SumLemmas.{AreWords, are_words, complete, fold-words_le, ones_add-complement, ones_add-le, word}
use Rattle.encap.specs.Forwarded.{lowered, renewed}

-- the places of TTL and checksum
abbrev pub changed : ℕ → Bool
changed k = eqb k 8 || eqb k 10 || eqb k 11

-- the octets from the TTL on
behind : (octets : List ℕ) (ttl high low m : ℕ) → changed (8 + m) ≡ false
    → slice_index (ttl ∷ slice_index octets 9 ∷ high ∷ low ∷ drop 12 octets) m ≡ slice_index octets (8 + m)
behind octets ttl high low zero same = cc
behind octets ttl high low (suc zero) same = refl
behind octets ttl high low (suc (suc zero)) same = cc
behind octets ttl high low (suc (suc (suc zero))) same = cc
behind octets ttl high low (suc (suc (suc (suc m)))) same =
    let at : 12 + m ≡ 8 + suc (suc (suc (suc m))) = omega arith in
    get_or-drop 12 octets m 0 ∙ ap (λ (k : ℕ). slice_index octets k) at

-- the other octets stay
pub slice_index-lowered : (octets : List ℕ) (sum k : ℕ) → 12 ≤ length octets → changed k ≡ false → slice_index (lowered octets sum) k ≡ slice_index octets k
slice_index-lowered octets sum k long same =
    let front = take 8 octets in
    let size : length front ≡ 8 = omega (arith, length-take 8 octets) in
    let back = (slice_index octets 8 - 1) ∷ slice_index octets 9 ∷ (big_octets 2 sum ++ drop 12 octets) in
    elim (cases_Bool (ltb k 8)) [
      | inl e ↦ let below : k < 8 = ltb-true k 8 e in get_or_append_left front back 0 k (omega arith) ∙ slice_index-take 8 k octets below
      | inr e ↦ let above : 8 ≤ k = ltb-false k 8 e in let at : 8 + (k - 8) ≡ k = omega arith in
          get_or-append_right front back 8 k 0 size above ∙ behind octets (slice_index octets 8 - 1) (sum / 256 % 256) (sum % 256) (k - 8) (ap changed at ∙ same) ∙ ap (λ (i : ℕ). slice_index octets i) at
    ]

-- the length that the header names
pub total-lowered : (octets : List ℕ) (sum : ℕ) → 12 ≤ length octets → big 2 (lowered octets sum) 2 ≡ big 2 octets 2
total-lowered (a ∷ b ∷ c ∷ d ∷ e ∷ f ∷ g ∷ h ∷ ttl ∷ j ∷ s ∷ t ∷ rest) sum long = refl
total-lowered octets sum long = absurd (omega arith)

-- the TTL is one less
pub ttl-lowered : (octets : List ℕ) (sum : ℕ) → 12 ≤ length octets → slice_index (lowered octets sum) 8 ≡ slice_index octets 8 - 1
ttl-lowered (a ∷ b ∷ c ∷ d ∷ e ∷ f ∷ g ∷ h ∷ ttl ∷ j ∷ s ∷ t ∷ rest) sum long = refl
ttl-lowered octets sum long = absurd (omega arith)

-- what is changed in the header of a packet is changed in the packet
pub lowered-front : (packet : List ℕ) (n sum : ℕ) → 12 ≤ n → n ≤ length packet → lowered (take n packet) sum ++ drop n packet ≡ lowered packet sum
lowered-front packet n sum long within =
    let back = drop 12 packet in
    let at : 12 + (n - 12) ≡ n = omega arith in
    let rest : drop n packet ≡ drop (n - 12) back = ap (λ (k : ℕ). drop k packet) (sym at) ∙ sym (drop-drop (n - 12) 12 packet) in
    let tail : drop 12 (take n packet) ++ drop n packet ≡ back =
    rw (drop-front 12 n packet long, rest) (take-append-drop (n - 12) back) in
    rw (append_assoc, take-take 8 n packet (omega arith), slice_index-take n 8 packet (omega arith), slice_index-take n 9 packet (omega arith), tail) refl

-- the sum over a renewed header
whole : (a b c d e f g h ttl j s t : ℕ) (rest : List ℕ) → All (λ octet. octet < 256) (a ∷ b ∷ c ∷ d ∷ e ∷ f ∷ g ∷ h ∷ ttl ∷ j ∷ s ∷ t ∷ rest)
    → ones_sum (renewed (a ∷ b ∷ c ∷ d ∷ e ∷ f ∷ g ∷ h ∷ ttl ∷ j ∷ s ∷ t ∷ rest)) ≡ 65535
unfolding renewed
whole a b c d e f g h ttl j s t rest all =
    let header = a ∷ b ∷ c ∷ d ∷ e ∷ f ∷ g ∷ h ∷ ttl ∷ j ∷ s ∷ t ∷ rest in
    let sum = ones_sum (lowered header 0) in
    let front : List ℕ = words (take 10 (lowered header 0)) in
    let back : List ℕ = words rest in
    let a_fits : a < 256 = all 0 0 (omega arith) in
    let b_fits : b < 256 = all 1 0 (omega arith) in
    let c_fits : c < 256 = all 2 0 (omega arith) in
    let d_fits : d < 256 = all 3 0 (omega arith) in
    let e_fits : e < 256 = all 4 0 (omega arith) in
    let f_fits : f < 256 = all 5 0 (omega arith) in
    let g_fits : g < 256 = all 6 0 (omega arith) in
    let h_fits : h < 256 = all 7 0 (omega arith) in
    let ttl_fits : ttl < 256 = all 8 0 (omega arith) in
    let j_fits : j < 256 = all 9 0 (omega arith) in
    let before : AreWords front = (omega arith, (omega arith, (omega arith, (omega arith, (omega arith, tt))))) in
    let after : AreWords back = are_words rest (λ (k i : ℕ) (below : k < length rest). all (suc (suc (suc (suc (suc (suc (suc (suc (suc (suc (suc (suc k)))))))))))) i (omega arith)) in
    let start : ℕ = fold ones_add 0 front in
    let small : start ≤ 65535 = fold-words_le front 0 before (omega arith) in
    let sum_small : sum ≤ 65535 = fold-words_le back (ones_add start 0) after (ones_add-le start 0 small (omega arith)) in
    rw (word (65535 - sum) (omega arith)) (complete start (65535 - sum) back small (omega arith) after (ones_add-complement sum sum_small))

pub ones_sum-renewed : (header : List ℕ) → 12 ≤ length header → All (λ octet. octet < 256) header → ones_sum (renewed header) ≡ 65535
ones_sum-renewed (a ∷ b ∷ c ∷ d ∷ e ∷ f ∷ g ∷ h ∷ ttl ∷ j ∷ s ∷ t ∷ rest) long all = whole a b c d e f g h ttl j s t rest all
ones_sum-renewed header long all = absurd (omega arith)
