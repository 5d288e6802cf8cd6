-- Numbers of 128 bits in two halves: what is left of them above a bit.
use Rattle.std.proofs.Common.{◌≡◌, ◌∙◌, ◌<◌, ◌≤◌, ◌+◌, ◌-◌, ◌*◌, ◌/◌, ◌%◌, ◌^◌, ◌==◌, ◌&&◌, ℕ, false, ap, sym, arith, pow-add}
use Rattle.std.specs.Cmp.{both_ways}
use Rattle.std.proofs.lemmas.Bool.{and_parts, and_from, eqb-true, eq-eqb, ne_eqb}
use Rattle.std.proofs.lemmas.Nat.{div-mul-add, mod-mul-add, div_below, pow_pos}
use Rattle.std.proofs.Math.Nat.{mul_assoc, mul-add-div_right, mul-add-mod_self_right, div-div-eq-div-mul}

-- what is left above a bit of the lower half
lower : (high low place : ℕ) → place < 64 → (high * 2 ^ 64 + low) / 2 ^ place ≡ high * 2 ^ (64 - place) + low / 2 ^ place
lower high low place within =
    let whole : 64 ≡ (64 - place) + place = omega (arith, within) in
    let parts : high * 2 ^ 64 ≡ high * 2 ^ (64 - place) * 2 ^ place =
    ap (λ k. high * 2 ^ k) whole ∙ ap (λ p. high * p) (pow-add 2 (64 - place) place) ∙ sym (mul_assoc high (2 ^ (64 - place)) (2 ^ place)) in
    ap (λ n. (n + low) / 2 ^ place) parts ∙ mul-add-div_right (pow_pos place) (high * 2 ^ (64 - place)) low

-- of the lower half there is less than what the higher one counts
lower-below : (low place : ℕ) → place < 64 → low < 2 ^ 64 → low / 2 ^ place < 2 ^ (64 - place)
lower-below low place within small =
    let whole : 64 ≡ (64 - place) + place = omega (arith, within) in
    let parts : 2 ^ 64 ≡ 2 ^ (64 - place) * 2 ^ place = ap (λ k. 2 ^ k) whole ∙ pow-add 2 (64 - place) place in
    div_below low (2 ^ place) (2 ^ (64 - place)) (pow_pos place) (omega (arith, small, parts))

-- what is left above a bit of the higher half
upper : (high low place : ℕ) → 64 ≤ place → low < 2 ^ 64 → (high * 2 ^ 64 + low) / 2 ^ place ≡ high / 2 ^ (place - 64)
upper high low place above small =
    let whole : place ≡ 64 + (place - 64) = omega (arith, above) in
    ap (λ k. (high * 2 ^ 64 + low) / 2 ^ k) whole
    ∙ ap (λ p. (high * 2 ^ 64 + low) / p) (pow-add 2 64 (place - 64))
    ∙ sym (div-div-eq-div-mul (high * 2 ^ 64 + low) (2 ^ 64) (2 ^ (place - 64)))
    ∙ ap (λ n. n / 2 ^ (place - 64)) (div-mul-add high (2 ^ 64) low small)

same_lower : (high low other_high other_low place : ℕ) → place < 64 → low < 2 ^ 64 → other_low < 2 ^ 64 →
    (high == other_high && low / 2 ^ place == other_low / 2 ^ place)
    ≡ ((high * 2 ^ 64 + low) / 2 ^ place == (other_high * 2 ^ 64 + other_low) / 2 ^ place)
same_lower high low other_high other_low place within small other_small =
    let rest = low / 2 ^ place in
    let other_rest = other_low / 2 ^ place in
    let more = 2 ^ (64 - place) in
    let below = lower-below low place within small in
    let other_below = lower-below other_low place within other_small in
    let left = lower high low place within in
    let other_left = lower other_high other_low place within in
    both_ways _ _
    (λ says.
    let parts = and_parts _ _ says in
    eq-eqb _ _ (left
    ∙ ap (λ n. n * more + rest) (eqb-true _ _ parts.0)
    ∙ ap (λ n. other_high * more + n) (eqb-true _ _ parts.1)
    ∙ sym other_left))
    (λ says.
    let same : high * more + rest ≡ other_high * more + other_rest = sym left ∙ eqb-true _ _ says ∙ other_left in
    and_from _ _
    (eq-eqb _ _ (sym (div-mul-add high more rest below) ∙ ap (λ n. n / more) same ∙ div-mul-add other_high more other_rest other_below))
    (eq-eqb _ _ (sym (mod-mul-add high more rest below) ∙ ap (λ n. n % more) same ∙ mod-mul-add other_high more other_rest other_below)))

pub same_high : (high low other_high other_low place : ℕ) → place < 64 → low < 2 ^ 64 → other_low < 2 ^ 64 → high ≡ other_high →
    (low / 2 ^ place == other_low / 2 ^ place)
    ≡ ((high * 2 ^ 64 + low) / 2 ^ place == (other_high * 2 ^ 64 + other_low) / 2 ^ place)
same_high high low other_high other_low place within small other_small same =
    ap (λ test. test && low / 2 ^ place == other_low / 2 ^ place) (sym (eq-eqb high other_high same))
    ∙ same_lower high low other_high other_low place within small other_small

pub high_differs : (high low other_high other_low place : ℕ) → place < 64 → low < 2 ^ 64 → other_low < 2 ^ 64 → (high ≡ other_high → ⊥) →
    (high == other_high)
    ≡ ((high * 2 ^ 64 + low) / 2 ^ place == (other_high * 2 ^ 64 + other_low) / 2 ^ place)
high_differs high low other_high other_low place within small other_small differs =
    let no : (high == other_high) ≡ false = ne_eqb high other_high differs in
    no
    ∙ ap (λ test. test && low / 2 ^ place == other_low / 2 ^ place) (sym no)
    ∙ same_lower high low other_high other_low place within small other_small

pub same_upper : (high low other_high other_low place : ℕ) → 64 ≤ place → low < 2 ^ 64 → other_low < 2 ^ 64 →
    (high / 2 ^ (place - 64) == other_high / 2 ^ (place - 64))
    ≡ ((high * 2 ^ 64 + low) / 2 ^ place == (other_high * 2 ^ 64 + other_low) / 2 ^ place)
same_upper high low other_high other_low place above small other_small =
    ap (λ n. n == other_high / 2 ^ (place - 64)) (sym (upper high low place above small))
    ∙ ap (λ n. (high * 2 ^ 64 + low) / 2 ^ place == n) (sym (upper other_high other_low place above other_small))

pub bit_lower : (high low place : ℕ) → place < 64 → low / 2 ^ place % 2 ≡ (high * 2 ^ 64 + low) / 2 ^ place % 2
bit_lower high low place within =
    let one : 64 - place ≡ (63 - place) + 1 = omega (arith, within) in
    let twice : high * 2 ^ (64 - place) ≡ high * 2 ^ (63 - place) * 2 =
    ap (λ k. high * 2 ^ k) one ∙ ap (λ p. high * p) (pow-add 2 (63 - place) 1) ∙ sym (mul_assoc high (2 ^ (63 - place)) 2) in
    sym (ap (λ n. n % 2) (lower high low place within ∙ ap (λ n. n + low / 2 ^ place) twice)
    ∙ mul-add-mod_self_right (high * 2 ^ (63 - place)) 2 (low / 2 ^ place))

pub bit_upper : (high low place : ℕ) → 64 ≤ place → low < 2 ^ 64 → high / 2 ^ (place - 64) % 2 ≡ (high * 2 ^ 64 + low) / 2 ^ place % 2
bit_upper high low place above small = ap (λ n. n % 2) (sym (upper high low place above small))
