-- The decimal digits of a number: the last two behind the others, and how many there are.
use Rattle.std.proofs.Common.{◌≡◌, ℕ, zero, suc, ◌+◌, ◌-◌, ◌*◌, ◌/◌, ◌%◌, ◌^◌, ◌<◌, ◌≤◌, Bool, true, ◌&&◌, T, eqb, List, [], ◌∷◌, ◌++◌, length, get_or, refl, sym, ap, ◌∙◌, inl, inr, arith, eq-zero-or-pos, eqb→eq, append_assoc, length-append}
use Rattle.std.specs.Fmt.{decimal}
use Rattle.std.proofs.lemmas.Fmt.{decimal_digit, decimal_step, length-decimal-le}
use lib.Ieee.Fits.{and_l, and_r}
use Rattle.router_log.specs.Numbers.{fixed_decimal, hex_glyph}
use Rattle.router_log.specs.declared.digits.TheConstants.{PAIRS}
use Rattle.router_log.specs.declared.numbers.TheConstants.{GLYPHS}

-- the two digits of a number below 100
abbrev pub pair : ℕ → List ℕ
pair n = (48 + n / 10) ∷ (48 + n % 10) ∷ []

-- a number of two digits
pub decimal_two : (n : ℕ) → 10 ≤ n → n < 100 → decimal n ≡ pair n
decimal_two n low high = rw (decimal_step n low (omega arith), decimal_digit (n / 10) (omega arith))

-- a number of more digits: the last two stand behind the others
pub decimal_more : (n : ℕ) → 100 ≤ n → n < 2 ^ 64 → decimal n ≡ decimal (n / 100) ++ pair (n % 100)
decimal_more n low fits =
    let others : n / 10 / 10 ≡ n / 100 = omega arith in
    let tens : n / 10 % 10 ≡ n % 100 / 10 = omega arith in
    let ones : n % 10 ≡ n % 100 % 10 = omega arith in
    rw (decimal_step n (omega arith) fits, decimal_step (n / 10) (omega arith) (omega arith), append_assoc, others, tens, ← ones)

-- it has two digits more than the others
pub length_more : (n : ℕ) → 100 ≤ n → n < 2 ^ 64 → length (decimal n) ≡ length (decimal (n / 100)) + 2
length_more n low fits = ap length (decimal_more n low fits) ∙ length-append _ _

-- an octet has at most three digits
pub length_octet : (n : ℕ) → n < 256 → length (decimal n) ≤ 3
length_octet n high = length-decimal-le 3 n (omega arith) (omega arith) (omega arith)

-- a port has at most five
pub length_port : (n : ℕ) → n < 2 ^ 16 → length (decimal n) ≤ 5
length_port n high = length-decimal-le 5 n (omega arith) (omega arith) (omega arith)

-- a number of 64 bits has at most twenty
pub length_any : (n : ℕ) → n < 2 ^ 64 → length (decimal n) ≤ 20
length_any n fits = length-decimal-le 20 n (omega arith) (omega arith) fits

-- four digits: two pairs
pub four_pairs : (n : ℕ) → n < 10000 → fixed_decimal 4 n ≡ pair (n / 100) ++ pair (n % 100)
four_pairs n high =
    let first : n / 1000 % 10 ≡ n / 100 / 10 = omega arith in
    let third : n / 10 % 10 ≡ n % 100 / 10 = omega arith in
    let fourth : n / 1 % 10 ≡ n % 100 % 10 = omega arith in
    rw (first, third, fourth) refl

-- eight digits: twice four
pub eight_fours : (n : ℕ) → n < 100000000 → fixed_decimal 8 n ≡ fixed_decimal 4 (n / 10000) ++ fixed_decimal 4 (n % 10000)
eight_fours n high =
    let first : n / 10000000 % 10 ≡ n / 10000 / 1000 % 10 = omega arith in
    let second : n / 1000000 % 10 ≡ n / 10000 / 100 % 10 = omega arith in
    let third : n / 100000 % 10 ≡ n / 10000 / 10 % 10 = omega arith in
    let fourth : n / 10000 % 10 ≡ n / 10000 / 1 % 10 = omega arith in
    let fifth : n / 1000 % 10 ≡ n % 10000 / 1000 % 10 = omega arith in
    let sixth : n / 100 % 10 ≡ n % 10000 / 100 % 10 = omega arith in
    let seventh : n / 10 % 10 ≡ n % 10000 / 10 % 10 = omega arith in
    let eighth : n / 1 % 10 ≡ n % 10000 / 1 % 10 = omega arith in
    rw (first, second, third, fourth, fifth, sixth, seventh, eighth) refl

-- nine digits: the first one, and eight
pub nine_digits : (n : ℕ) → n < 1000000000 → fixed_decimal 9 n ≡ (48 + n / 100000000) ∷ fixed_decimal 8 (n % 100000000)
nine_digits n high =
    let first : n / 100000000 % 10 ≡ n / 100000000 = omega arith in
    let second : n / 10000000 % 10 ≡ n % 100000000 / 10000000 % 10 = omega arith in
    let third : n / 1000000 % 10 ≡ n % 100000000 / 1000000 % 10 = omega arith in
    let fourth : n / 100000 % 10 ≡ n % 100000000 / 100000 % 10 = omega arith in
    let fifth : n / 10000 % 10 ≡ n % 100000000 / 10000 % 10 = omega arith in
    let sixth : n / 1000 % 10 ≡ n % 100000000 / 1000 % 10 = omega arith in
    let seventh : n / 100 % 10 ≡ n % 100000000 / 100 % 10 = omega arith in
    let eighth : n / 10 % 10 ≡ n % 100000000 / 10 % 10 = omega arith in
    let ninth : n / 1 % 10 ≡ n % 100000000 / 1 % 10 = omega arith in
    rw (first, second, third, fourth, fifth, sixth, seventh, eighth, ninth) refl

-- a number of more than four digits: the last four stand behind the others
pub decimal_four : (n : ℕ) → 10000 ≤ n → n < 2 ^ 64 → decimal n ≡ decimal (n / 10000) ++ fixed_decimal 4 (n % 10000)
decimal_four n low fits =
    let others : n / 100 / 100 ≡ n / 10000 = omega arith in
    let upper : n / 100 % 100 ≡ n % 10000 / 100 = omega arith in
    let lower : n % 100 ≡ n % 10000 % 100 = omega arith in
    rw (decimal_more n (omega arith) fits, decimal_more (n / 100) (omega arith) (omega arith), append_assoc, others, upper, lower)
    (ap (λ l. decimal (n / 10000) ++ l) (sym (four_pairs (n % 10000) (omega arith))))

-- it has four digits more than the others
pub length_four : (n : ℕ) → 10000 ≤ n → n < 2 ^ 64 → length (decimal n) ≡ length (decimal (n / 10000)) + 4
length_four n low fits = ap length (decimal_four n low fits) ∙ length-append _ _

-- a number of more than eight: the last eight stand behind the others
pub decimal_eight : (n : ℕ) → 100000000 ≤ n → n < 2 ^ 64 → decimal n ≡ decimal (n / 100000000) ++ fixed_decimal 8 (n % 100000000)
decimal_eight n low fits =
    let others : n / 10000 / 10000 ≡ n / 100000000 = omega arith in
    let upper : n / 10000 % 10000 ≡ n % 100000000 / 10000 = omega arith in
    let lower : n % 10000 ≡ n % 100000000 % 10000 = omega arith in
    decimal_four n (omega arith) fits
    ∙ ap (λ l. l ++ fixed_decimal 4 (n % 10000)) (decimal_four (n / 10000) (omega arith) (omega arith))
    ∙ append_assoc (decimal (n / 10000 / 10000)) (fixed_decimal 4 (n / 10000 % 10000)) (fixed_decimal 4 (n % 10000))
    ∙ ap (λ i. decimal i ++ (fixed_decimal 4 (n / 10000 % 10000) ++ fixed_decimal 4 (n % 10000))) others
    ∙ ap (λ i. decimal (n / 100000000) ++ (fixed_decimal 4 i ++ fixed_decimal 4 (n % 10000))) upper
    ∙ ap (λ i. decimal (n / 100000000) ++ (fixed_decimal 4 (n % 100000000 / 10000) ++ fixed_decimal 4 i)) lower
    ∙ ap (λ l. decimal (n / 100000000) ++ l) (sym (eight_fours (n % 100000000) (omega arith)))

-- it has eight digits more than the others
pub length_eight : (n : ℕ) → 100000000 ≤ n → n < 2 ^ 64 → length (decimal n) ≡ length (decimal (n / 100000000)) + 8
length_eight n low fits = ap length (decimal_eight n low fits) ∙ length-append _ _

-- the first n pairs of the table are the digits of the numbers below n
abbrev are_pairs : ℕ → Bool
are_pairs zero = true
are_pairs (suc n) =
    (eqb (get_or PAIRS (n * 2) 0) (48 + n / 10) && eqb (get_or PAIRS (n * 2 + 1) 0) (48 + n % 10)) && are_pairs n

-- so is each of them
pair_below : (n p : ℕ) → T (are_pairs n) → p < n → (get_or PAIRS (p * 2) 0 ≡ 48 + p / 10) × (get_or PAIRS (p * 2 + 1) 0 ≡ 48 + p % 10)
pair_below zero p test below = absurd (omega arith)
pair_below (suc n) p test below =
    let here = and_l _ (are_pairs n) test in
    elim (eq-zero-or-pos (n - p)) [
      | inl last ↦ let same : p ≡ n = omega arith in rw same (eqb→eq _ _ (and_l _ _ here), eqb→eq _ _ (and_r _ _ here))
      | inr more ↦ pair_below n p (and_r _ (are_pairs n) test) (omega arith)
    ]

-- a pair of the table
pub pair_at : (p : ℕ) → p < 100 → (get_or PAIRS (p * 2) 0 ≡ 48 + p / 10) × (get_or PAIRS (p * 2 + 1) 0 ≡ 48 + p % 10)
pair_at p below = pair_below 100 p tt below

-- the first n of the hexadecimal digits are those of the numbers below n
abbrev are_glyphs : ℕ → Bool
are_glyphs zero = true
are_glyphs (suc n) = eqb (get_or GLYPHS n 0) (hex_glyph n) && are_glyphs n

-- so is each of them
glyph_below : (n d : ℕ) → T (are_glyphs n) → d < n → get_or GLYPHS d 0 ≡ hex_glyph d
glyph_below zero d test below = absurd (omega arith)
glyph_below (suc n) d test below =
    elim (eq-zero-or-pos (n - d)) [
      | inl last ↦ let same : d ≡ n = omega arith in rw same (eqb→eq _ _ (and_l _ (are_glyphs n) test))
      | inr more ↦ glyph_below n d (and_r _ (are_glyphs n) test) (omega arith)
    ]

-- a hexadecimal digit of the table
pub glyph_at : (d : ℕ) → d < 16 → get_or GLYPHS d 0 ≡ hex_glyph d
glyph_at d below = glyph_below 16 d tt below
