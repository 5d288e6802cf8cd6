-- The checksum of an IPv4 header whose TTL is one less, by the one that it had.
use Rattle.std.proofs.Common.{◌≡◌, ◌≤◌, ◌<◌, ◌+◌, ◌-◌, ◌*◌, ◌%◌, ℕ, suc, List, ◌∷◌, ◌++◌, All, length, take, drop, slice_index, None, true, sym, ap, ◌∙◌, arith}
use Rattle.std.proofs.lemmas.Grind.{common_steps}
use Rattle.std.proofs.lemmas.Bool.{eqb-true}
use Rattle.std.proofs.lemmas.List.{length-take, get_or-take}
use Rattle.octets.specs.Numbers.{big}
use Rattle.octets.specs.Rules.{first_failing}
use Rattle.octets.proofs.Fronts.{big-take, slice_index-take}
use Rattle.ip_headers.specs.Checksum.{checksum, folded, ones_sum, words}
use Rattle.ip_headers.specs.Ip.{header_len, ip_rules, is_v4}
use Rattle.ip_headers.proofs.CutPacket.{v4_facts}
use Rattle.ip_headers.proofs.PlainSums.{fold-folded, folded-plain_sum, total, total-least, total-plus}
use Rattle.ip_headers.proofs.SumLemmas.{AreWords, are_words}
use Rattle.encap.specs.Forwarded.{forwarded_v4, lowered, lowered_sum, renewed}
use Rattle.encap.proofs.Renewed.{lowered-front}

folded-some : (n : ℕ) → 0 < n → folded n ≡ (n - 1) % 65535 + 1
folded-some n some = grind (arith, common_steps, some)

-- what completes a sum, where it was completed by `sum` beside a TTL of one more
completes : (rest sum : ℕ) → 0 < rest → folded (rest + (256 + sum)) ≡ 65535 → 65535 - folded rest ≡ lowered_sum sum
completes rest sum some whole =
    let is : (rest + (256 + sum) - 1) % 65535 + 1 ≡ 65535 = sym (folded-some (rest + (256 + sum)) (omega (arith, some))) ∙ whole in
    let left : 65535 - ((rest - 1) % 65535 + 1) ≡ (sum + 256) % 65535 = omega (arith, some, is) in
    ap (λ (n : ℕ). 65535 - n) (folded-some rest some) ∙ left

by_words : (a b c d e f g h ttl j s t : ℕ) (rest : List ℕ) → 0 < a → 1 ≤ ttl
    → All (λ octet. octet < 256) (a ∷ b ∷ c ∷ d ∷ e ∷ f ∷ g ∷ h ∷ ttl ∷ j ∷ s ∷ t ∷ rest)
    → ones_sum (a ∷ b ∷ c ∷ d ∷ e ∷ f ∷ g ∷ h ∷ ttl ∷ j ∷ s ∷ t ∷ rest) ≡ 65535
    → checksum (lowered (a ∷ b ∷ c ∷ d ∷ e ∷ f ∷ g ∷ h ∷ ttl ∷ j ∷ s ∷ t ∷ rest) 0) ≡ lowered_sum (s * 256 + t)
by_words a b c d e f g h ttl j s t rest version alive all whole =
    let header = a ∷ b ∷ c ∷ d ∷ e ∷ f ∷ g ∷ h ∷ ttl ∷ j ∷ s ∷ t ∷ rest in
    let back : List ℕ = words rest in
    let a_fits : a < 256 = all 0 0 (omega arith) in
    let b_fits : b < 256 = all 1 0 (omega arith) in
    let c_fits : c < 256 = all 2 0 (omega arith) in
    let d_fits : d < 256 = all 3 0 (omega arith) in
    let e_fits : e < 256 = all 4 0 (omega arith) in
    let f_fits : f < 256 = all 5 0 (omega arith) in
    let g_fits : g < 256 = all 6 0 (omega arith) in
    let h_fits : h < 256 = all 7 0 (omega arith) in
    let ttl_fits : ttl < 256 = all 8 0 (omega arith) in
    let j_fits : j < 256 = all 9 0 (omega arith) in
    let s_fits : s < 256 = all 10 0 (omega arith) in
    let t_fits : t < 256 = all 11 0 (omega arith) in
    let after : AreWords back = are_words rest (λ (k i : ℕ) (below : k < length rest). all (suc (suc (suc (suc (suc (suc (suc (suc (suc (suc (suc (suc k)))))))))))) i (omega arith)) in
    let are : AreWords (words (lowered header 0)) = (omega arith, (omega arith, (omega arith, (omega arith, (omega arith, (omega arith, after)))))) in
    let front : ℕ = 0 + (a * 256 + b) + (c * 256 + d) + (e * 256 + f) + (g * 256 + h) + ((ttl - 1) * 256 + j) + (0 * 256 + 0) in
    let whole_front : ℕ = 0 + (a * 256 + b) + (c * 256 + d) + (e * 256 + f) + (g * 256 + h) + (ttl * 256 + j) + (s * 256 + t) in
    let others : ℕ = total front back in
    let least : front ≤ others = total-least back front in
    let sum : ones_sum (lowered header 0) ≡ folded others = fold-folded (words (lowered header 0)) 0 are in
    let more : whole_front ≡ front + (256 + (s * 256 + t)) = omega (arith, alive) in
    let plain : folded (total whole_front back) ≡ ones_sum header = folded-plain_sum header 0 all (omega arith) in
    let all_words : folded (others + (256 + (s * 256 + t))) ≡ 65535 =
    ap folded (sym (total-plus back front (256 + (s * 256 + t)))) ∙ ap (λ (n : ℕ). folded (total n back)) (sym more) ∙ plain ∙ whole in
    ap (λ (n : ℕ). 65535 - n) sum ∙ completes others (s * 256 + t) (omega (arith, least, version)) all_words

pub checksum-lowered : (header : List ℕ) → 12 ≤ length header → 0 < slice_index header 0 → 1 ≤ slice_index header 8 → All (λ octet. octet < 256) header
    → ones_sum header ≡ 65535 → checksum (lowered header 0) ≡ lowered_sum (big 2 header 10)
checksum-lowered (a ∷ b ∷ c ∷ d ∷ e ∷ f ∷ g ∷ h ∷ ttl ∷ j ∷ s ∷ t ∷ rest) long version alive all whole =
    let low : s * 256 + t ≡ s * 256 + (t * 1 + 0) = omega arith in
    by_words a b c d e f g h ttl j s t rest version alive all whole ∙ ap lowered_sum low
checksum-lowered header long version alive all whole = absurd (omega (arith, long))

-- a packet with its TTL one less
pub forwarded_v4-lowered : (base : ℕ) (packet : List ℕ) → first_failing (ip_rules base packet) ≡ None → is_v4 packet ≡ true → 1 ≤ slice_index packet 8
    → All (λ octet. octet < 256) packet → lowered packet (lowered_sum (big 2 packet 10)) ≡ forwarded_v4 packet
unfolding renewed
forwarded_v4-lowered base packet lawful four alive all =
    let f = v4_facts base packet lawful four in
    let n = header_len packet in
    let header = take n packet in
    let within : n ≤ length packet = omega (arith, f.inside, f.total) in
    let size : length header ≡ n = omega (arith, length-take n packet, within) in
    let octets : All (λ octet. octet < 256) header =
    λ (k d : ℕ) (below : k < length header). rw (get_or-take n packet k d (omega (arith, size))) (all k d (omega (arith, size, within))) in
    let first : slice_index header 0 ≡ slice_index packet 0 = slice_index-take n 0 packet (omega (arith, f.words)) in
    let ttl : slice_index header 8 ≡ slice_index packet 8 = slice_index-take n 8 packet (omega (arith, f.words)) in
    let version : 0 < slice_index header 0 = omega (arith, first, f.words) in
    let sum : checksum (lowered header 0) ≡ lowered_sum (big 2 packet 10) =
    checksum-lowered header (omega (arith, size, f.words)) version (omega (arith, ttl, alive)) octets (eqb-true _ _ f.sum)
    ∙ ap lowered_sum (big-take 2 10 n packet (omega (arith, f.words))) in
    sym (lowered-front packet n (lowered_sum (big 2 packet 10)) (omega (arith, f.words)) within) ∙ ap (λ (s : ℕ). lowered header s ++ drop n packet) (sym sum)
