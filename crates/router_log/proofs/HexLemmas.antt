-- The hexadecimal digits of an octet: the table of them, and those of a group of two octets.
use Rattle.std.proofs.Common.{◌≡◌, ℕ, zero, suc, ◌+◌, ◌-◌, ◌*◌, ◌/◌, ◌%◌, ◌<◌, ◌≤◌, List, [], ◌∷◌, ◌++◌, get_or, refl, ap, ◌∙◌, inl, inr, arith, eq-zero-or-pos}
use Rattle.router_log.specs.Numbers.{fixed_hex, hex_glyph}
use Rattle.router_log.specs.declared.numbers.TheConstants.{HEX_PAIRS}

-- what a table has of m octets from n on
abbrev entries : ℕ → ℕ → List ℕ
entries n zero = []
entries n (suc m) = hex_glyph (n / 16) ∷ hex_glyph (n % 16) ∷ entries (suc n) m

-- so has the one of all octets
table : HEX_PAIRS ≡ entries 0 256
table = refl

-- the digits of the octet p
entry_of : (m n p k : ℕ) → n ≤ p → p < n + m → k ≡ (p - n) * 2
    → (get_or (entries n m) k 0 ≡ hex_glyph (p / 16)) × (get_or (entries n m) (k + 1) 0 ≡ hex_glyph (p % 16))
entry_of zero n p k low below is = absurd (omega arith)
entry_of (suc m) n p k low below is =
    let l = entries n (suc m) in
    elim (eq-zero-or-pos (p - n)) [
      | inl first ↦
          let same : n ≡ p = omega arith in
          let upper : k ≡ 0 = omega arith in
          let lower : k + 1 ≡ 1 = omega arith in
          (ap (λ i. get_or l i 0) upper ∙ ap (λ i. hex_glyph (i / 16)) same, ap (λ i. get_or l i 0) lower ∙ ap (λ i. hex_glyph (i % 16)) same)
      | inr more ↦
          let upper : k ≡ suc (suc (k - 2)) = omega arith in
          let lower : k + 1 ≡ suc (suc (k - 2 + 1)) = omega arith in
          let there = entry_of m (suc n) p (k - 2) (omega arith) (omega arith) (omega arith) in
          (ap (λ i. get_or l i 0) upper ∙ there.0, ap (λ i. get_or l i 0) lower ∙ there.1)
    ]

-- the two digits of an octet, in the table
pub octet_at : (n : ℕ) → n < 256
    → (get_or HEX_PAIRS (n * 2) 0 ≡ hex_glyph (n / 16 % 16)) × (get_or HEX_PAIRS (n * 2 + 1) 0 ≡ hex_glyph (n / 1 % 16))
octet_at n high =
    let there = entry_of 256 0 n (n * 2) (omega arith) (omega arith) (omega arith) in
    let upper : n / 16 ≡ n / 16 % 16 = omega arith in
    let lower : n % 16 ≡ n / 1 % 16 = omega arith in
    (ap (λ l. get_or l (n * 2) 0) table ∙ there.0 ∙ ap hex_glyph upper, ap (λ l. get_or l (n * 2 + 1) 0) table ∙ there.1 ∙ ap hex_glyph lower)

-- a group: the digits of its two octets
pub two_octets : (n : ℕ) → n < 65536 → fixed_hex 4 n ≡ fixed_hex 2 (n / 256) ++ fixed_hex 2 (n % 256)
two_octets n high =
    let first : n / 4096 % 16 ≡ n / 256 / 16 % 16 = omega arith in
    let second : n / 256 % 16 ≡ n / 256 / 1 % 16 = omega arith in
    let third : n / 16 % 16 ≡ n % 256 / 16 % 16 = omega arith in
    let fourth : n / 1 % 16 ≡ n % 256 / 1 % 16 = omega arith in
    rw (first, second, third, fourth) refl
