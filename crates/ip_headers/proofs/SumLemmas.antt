-- Ones' complement sums: their order, and sums over runs of octets.
use Rattle.std.proofs.Common.{◌≡◌, ◌<◌, ◌≤◌, ℕ, suc, ◌+◌, ◌-◌, ◌*◌, ◌/◌, ◌%◌, List, [], ◌∷◌, ◌++◌, All, length, fold, refl, sym, ap, ◌∙◌, arith}
use Rattle.std.proofs.lemmas.Grind.{common_steps}
use Rattle.octets.specs.Numbers.{big_octets}
use Rattle.ip_headers.specs.Checksum.{ones_add, ones_sum, words}
use Rattle.ip_headers.specs.Udp.{addr_octets, pseudo_header}
use Rattle.ip_headers.specs.declared.addr.Addr.{Addr}
use Rattle.ip_headers.specs.declared.addr.Addr.TheVariants.{V4, V6}

-- the word in two octets
pub word : (x : ℕ) → x < 65536 → x / 256 % 256 * 256 + x % 256 ≡ x
word x fits = omega arith

-- words that are added in another order
pub ones_add-swap : (a b c : ℕ) → a ≤ 65535 → b ≤ 65535 → c ≤ 65535 → ones_add (ones_add a b) c ≡ ones_add (ones_add a c) b
ones_add-swap a b c x y z = grind (arith, common_steps)

pub ones_add-le : (a b : ℕ) → a ≤ 65535 → b ≤ 65535 → ones_add a b ≤ 65535
ones_add-le a b x y = grind (arith, common_steps)

pub ones_add-zero : (a : ℕ) → a ≤ 65535 → ones_add a 0 ≡ a
ones_add-zero a x = grind (arith, common_steps)

-- the sum goes on behind the octets of an address
pub sum-addr : (addr : Addr) (start : ℕ) (rest : List ℕ)
    → fold ones_add start (words (addr_octets addr ++ rest)) ≡ fold ones_add (fold ones_add start (words (addr_octets addr))) (words rest)
sum-addr (V4 n) start rest = refl
sum-addr (V6 n) start rest = refl

-- the end of the pseudo-header over IPv4
sum-v4_end : (start size : ℕ) → size < 65536 → fold ones_add start (words (0 ∷ 17 ∷ big_octets 2 size)) ≡ ones_add (ones_add start 17) size
sum-v4_end start size fits = ap (ones_add (ones_add start 17)) (word size fits)

high_word : (x : ℕ) → x < 65536 → x / 16777216 % 256 * 256 + x / 65536 % 256 ≡ 0
high_word x fits = omega arith

-- the end of the pseudo-header over IPv6
sum-v6_end : (start size : ℕ) → start ≤ 65535 → size < 65536
    → fold ones_add start (words (big_octets 4 size ++ 0 ∷ 0 ∷ 0 ∷ 17 ∷ [])) ≡ ones_add (ones_add start 17) size
sum-v6_end start size small fits =
    rw (high_word size fits, word size fits, ones_add-zero start small)
    (ap (λ (s : ℕ). ones_add s 17) (ones_add-zero (ones_add start size) (ones_add-le start size small (omega arith)))
    ∙ ones_add-swap start size 17 small (omega arith) (omega arith))

-- the sum over a pseudo-header
pub ones_sum-pseudo_header : (from to : Addr) (sum size : ℕ) → sum ≡ fold ones_add (fold ones_add 0 (words (addr_octets from))) (words (addr_octets to)) → sum < 65536 → size < 65536
    → ones_sum (pseudo_header from to size) ≡ ones_add (ones_add sum 17) size
ones_sum-pseudo_header (V4 n) to sum size is small fits =
    rw is (sum-addr to (fold ones_add 0 (words (big_octets 4 n))) (0 ∷ 17 ∷ big_octets 2 size) ∙ sum-v4_end _ size fits)
ones_sum-pseudo_header (V6 n) to sum size is small fits =
    sum-addr to (fold ones_add 0 (words (big_octets 16 n))) (big_octets 4 size ++ 0 ∷ 0 ∷ 0 ∷ 17 ∷ [])
    ∙ rw (← is) (sum-v6_end sum size (omega arith) fits)

-- the sum goes on behind a pseudo-header
pub sum-pseudo_header : (from to : Addr) (size : ℕ) (rest : List ℕ)
    → ones_sum (pseudo_header from to size ++ rest) ≡ fold ones_add (ones_sum (pseudo_header from to size)) (words rest)
sum-pseudo_header (V4 m) (V4 n) size rest = refl
sum-pseudo_header (V4 m) (V6 n) size rest = refl
sum-pseudo_header (V6 m) (V4 n) size rest = refl
sum-pseudo_header (V6 m) (V6 n) size rest = refl

-- each is a word of 16 bits
abbrev pub AreWords : List ℕ → Type 0
AreWords [] = Unit {0}
AreWords (first ∷ rest) = (first ≤ 65535) × AreWords rest

-- words of octets
pub are_words : (octets : List ℕ) → All (λ octet. octet < 256) octets → AreWords (words octets)
are_words [] all = tt
are_words (last ∷ []) all = (omega (arith, all 0 0 (omega arith)), tt)
are_words (high ∷ low ∷ rest) all =
    let a : high < 256 = all 0 0 (omega arith) in
    let b : low < 256 = all 1 0 (omega arith) in
    (omega arith, are_words rest (λ (k d : ℕ) (below : k < length rest). all (suc (suc k)) d (omega arith)))

pub fold-words_le : (ws : List ℕ) (start : ℕ) → AreWords ws → start ≤ 65535 → fold ones_add start ws ≤ 65535
fold-words_le [] start are small = small
fold-words_le (w ∷ ws) start are small = fold-words_le ws (ones_add start w) are.1 (ones_add-le start w small are.0)

-- a word that is added before the others or after them
pub fold-ones_add : (ws : List ℕ) (start w : ℕ) → AreWords ws → start ≤ 65535 → w ≤ 65535
    → fold ones_add (ones_add start w) ws ≡ ones_add (fold ones_add start ws) w
fold-ones_add [] start w are small fits = refl
fold-ones_add (first ∷ ws) start w are small fits =
    ap (λ (s : ℕ). fold ones_add s ws) (ones_add-swap start w first small fits are.0)
    ∙ fold-ones_add ws (ones_add start first) w are.1 (ones_add-le start first small are.0) fits

-- the complement makes a sum whole, also where it is written as all ones
pub ones_add-complement : (sum : ℕ) → sum ≤ 65535 → ones_add sum (65535 - sum) ≡ 65535
ones_add-complement sum small = grind (arith, common_steps)

-- a word that completes the sum of the others completes it in any place among them
pub complete : (start w : ℕ) (back : List ℕ) → start ≤ 65535 → w ≤ 65535 → AreWords back
    → ones_add (fold ones_add (ones_add start 0) back) w ≡ 65535 → fold ones_add (ones_add start w) back ≡ 65535
complete start w back small fits are whole =
    fold-ones_add back start w are small fits ∙ ap (λ (s : ℕ). ones_add (fold ones_add s back) w) (sym (ones_add-zero start small)) ∙ whole
