-- A number with its lowest bits taken from another.
use Rattle.std.proofs.Common.{◌≡◌, ℕ, ◌+◌, ◌-◌, ◌*◌, ◌/◌, ◌%◌, ◌^◌, ◌<◌, ◌≤◌, sym, ap, ap₂, subst, ◌∙◌, arith, mod-lt, mod-eq_of_lt, div-lt_iff_lt-mul, div-mul-le_self, mul-le-mul_right}
use Rattle.std.proofs.lemmas.Nat.{one_shl, pow-add, pow_pos}
use Rattle.map_cache.specs.Cache.{lowest_from}

-- 32 bits stay 32 bits
pub lowest_from-fits : (width old new : ℕ) → width ≤ 32 → old < 2 ^ 32 → lowest_from width old new < 2 ^ 32
lowest_from-fits width old new few fits =
    let split : (32 - width) + width ≡ 32 = omega arith in
    let whole : 2 ^ 32 ≡ 2 ^ (32 - width) * 2 ^ width = ap (λ k. 2 ^ k) (sym split) ∙ pow-add 2 (32 - width) width in
    let quotient : old / 2 ^ width < 2 ^ (32 - width) = (div-lt_iff_lt-mul (pow_pos width)).1 (subst (λ k. old < k) whole fits) in
    let product : (old / 2 ^ width + 1) * 2 ^ width ≤ 2 ^ (32 - width) * 2 ^ width = mul-le-mul_right (2 ^ width) (omega (arith, quotient)) in
    let rest : new % 2 ^ width < 2 ^ width = mod-lt new (pow_pos width) in
    omega (arith, product, rest, whole)

-- what shifts make of them
pub lowest_from-shifts : (width old new : ℕ) → width ≤ 32 → old < 2 ^ 32 → old / 2 ^ width * 2 ^ width % 2 ^ 64 + new % (1 * 2 ^ width % 2 ^ 64) ≡ lowest_from width old new
lowest_from-shifts width old new few fits =
    let less : old / 2 ^ width * 2 ^ width ≤ old = div-mul-le_self old (2 ^ width) in
    let small : old / 2 ^ width * 2 ^ width < 2 ^ 64 = omega (arith, less) in
    ap₂ (λ a b. a + new % b) (mod-eq_of_lt small) (one_shl width 64 (omega arith))
