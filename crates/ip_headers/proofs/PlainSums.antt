-- Plain sums of words, whose carries are added in once, are ones' complement sums.
use Rattle.std.proofs.Common.{◌≡◌, ◌<◌, ◌≤◌, ℕ, zero, suc, ◌+◌, ◌-◌, ◌*◌, List, [], ◌∷◌, ◌++◌, All, length, take, drop, slice_index_or, fold, refl, sym, ap, ◌∙◌, arith}
use Rattle.std.proofs.Math.Seq.{take-length}
use Rattle.std.proofs.lemmas.Grind.{common_steps}
use Rattle.std.proofs.lemmas.List.Sums.{fold-append}
use Rattle.ip_headers.specs.Checksum.{folded, ones_add, plain_sum, words}
use Rattle.ip_headers.proofs.SumLemmas.{AreWords, are_words}

-- the plain sum of words
abbrev pub total : ℕ → List ℕ → ℕ
total start ws = fold (λ (sum word : ℕ). sum + word) start ws

-- a word that is added to a folded sum
ones_add-folded : (sum w : ℕ) → w ≤ 65535 → ones_add (folded sum) w ≡ folded (sum + w)
ones_add-folded zero w fits = grind (arith, common_steps)
ones_add-folded (suc sum) w fits = grind (arith, common_steps)

pub fold-folded : (ws : List ℕ) (sum : ℕ) → AreWords ws → fold ones_add (folded sum) ws ≡ folded (total sum ws)
fold-folded [] sum are = refl
fold-folded (w ∷ ws) sum are = ap (λ (s : ℕ). fold ones_add s ws) (ones_add-folded sum w are.0) ∙ fold-folded ws (sum + w) are.1

folded-small : (sum : ℕ) → sum ≤ 65535 → folded sum ≡ sum
folded-small sum small = grind (arith, common_steps)

-- carries that are added in once for all words
pub folded-plain_sum : (octets : List ℕ) (start : ℕ) → All (λ octet. octet < 256) octets → start ≤ 65535
    → folded (plain_sum start octets) ≡ fold ones_add start (words octets)
folded-plain_sum octets start all small =
    sym (fold-folded (words octets) start (are_words octets all)) ∙ ap (λ (s : ℕ). fold ones_add s (words octets)) (folded-small start small)

-- words of octets behind whole words
words-append : (a b : List ℕ) (count : ℕ) → length a ≡ count * 2 → words (a ++ b) ≡ words a ++ words b
words-append [] b count even = refl
words-append (last ∷ []) b count even = absurd (omega (arith, even))
words-append (high ∷ low ∷ a) b zero even = absurd (omega (arith, even))
words-append (high ∷ low ∷ a) b (suc count) even = ap (λ (ws : List ℕ). (high * 256 + low) ∷ ws) (words-append a b count (omega (arith, even)))

-- the sum goes on behind whole words
pub sum-append : (a b : List ℕ) (start count : ℕ) → length a ≡ count * 2
    → fold ones_add (fold ones_add start (words a)) (words b) ≡ fold ones_add start (words (a ++ b))
sum-append a b start count even =
    sym (fold-append ones_add start (words a) (words b)) ∙ ap (fold ones_add start) (sym (words-append a b count even))

pub total-plus : (ws : List ℕ) (sum more : ℕ) → total (sum + more) ws ≡ total sum ws + more
total-plus [] sum more = refl
total-plus (w ∷ ws) sum more =
    let same : sum + more + w ≡ sum + w + more = omega arith in
    ap (λ (s : ℕ). total s ws) same ∙ total-plus ws (sum + w) more

pub total-least : (ws : List ℕ) (sum : ℕ) → sum ≤ total sum ws
total-least [] sum = omega arith
total-least (w ∷ ws) sum = let more = total-least ws (sum + w) in omega (arith, more)

folded-more : (sum times : ℕ) → times ≤ sum → folded (sum + 65535 * times) ≡ folded sum
folded-more zero times less = grind (arith, common_steps)
folded-more (suc sum) times less = grind (arith, common_steps)

-- two words as one number
folded-both : (ws : List ℕ) (sum high low : ℕ) → folded (total (sum + (high * 65536 + low)) ws) ≡ folded (total (sum + high + low) ws)
folded-both ws sum high low =
    let least = total-least ws (sum + high + low) in
    let parts : sum + (high * 65536 + low) ≡ sum + high + low + 65535 * high = omega arith in
    ap (λ (s : ℕ). folded (total s ws)) parts ∙ ap folded (total-plus ws (sum + high + low) (65535 * high))
    ∙ folded-more (total (sum + high + low) ws) high (omega (arith, least))

-- the first two words of octets as one number
pub plain_sum-both : (octets : List ℕ) (sum both : ℕ) → 4 ≤ length octets
    → both ≡ slice_index_or octets 0 0 * 16777216 + slice_index_or octets 1 0 * 65536 + slice_index_or octets 2 0 * 256 + slice_index_or octets 3 0
    → folded (plain_sum (sum + both) (take (length octets - 4) (drop 4 octets))) ≡ folded (plain_sum sum octets)
plain_sum-both [] sum both long is = absurd (omega (arith, long))
plain_sum-both (a ∷ []) sum both long is = absurd (omega (arith, long))
plain_sum-both (a ∷ b ∷ []) sum both long is = absurd (omega (arith, long))
plain_sum-both (a ∷ b ∷ c ∷ []) sum both long is = absurd (omega (arith, long))
plain_sum-both (a ∷ b ∷ c ∷ d ∷ rest) sum both long is =
    let words_in : both ≡ (a * 256 + b) * 65536 + (c * 256 + d) = omega (arith, is) in
    let left : length {A = ℕ} (a ∷ b ∷ c ∷ d ∷ rest) - 4 ≡ length rest = omega arith in
    ap (λ (n : ℕ). folded (plain_sum (sum + both) (take n rest))) left
    ∙ ap (λ (l : List ℕ). folded (plain_sum (sum + both) l)) (take-length rest)
    ∙ ap (λ (n : ℕ). folded (plain_sum (sum + n) rest)) words_in
    ∙ folded-both (words rest) sum (a * 256 + b) (c * 256 + d)
