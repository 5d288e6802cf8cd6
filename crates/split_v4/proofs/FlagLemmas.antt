-- The word with the flags and the fragment offset, in either half.
use Rattle.std.proofs.Common.{◌≡◌, ◌≢◌, ◌≤◌, ◌<◌, ◌+◌, ◌/◌, ◌%◌, eqb, ℕ, Bool, true, false, refl, ap, ◌∙◌, arith}
use Rattle.std.proofs.lemmas.Bool.{eqb-false}
use Rattle.split_v4.specs.Halves.{has_more, with_more}

-- what stays of the word where More Fragments is set
pub record StaysWithMore (flags : ℕ) : Type 0 where
  pub more : has_more (with_more flags) ≡ true
  pub offset : with_more flags % 8192 ≡ flags % 8192
  pub dont_fragment : with_more flags / 16384 % 2 ≡ flags / 16384 % 2
  pub reserved : with_more flags / 32768 ≡ flags / 32768
  pub narrow : with_more flags < 65536

by_more : (flags : ℕ) (more : Bool) → has_more flags ≡ more → flags < 65536 → StaysWithMore flags
by_more flags true is narrow =
    let same : with_more flags ≡ flags = rw is refl in record {
      more = ap has_more same ∙ is;
      offset = ap (λ (n : ℕ). n % 8192) same;
      dont_fragment = ap (λ (n : ℕ). n / 16384 % 2) same;
      reserved = ap (λ (n : ℕ). n / 32768) same;
      narrow = omega (arith, same, narrow);
    }
by_more flags false is narrow =
    let same : with_more flags ≡ flags + 8192 = rw is refl in
    let other : flags / 8192 % 2 ≢ 1 = eqb-false (flags / 8192 % 2) 1 is in
    let odd : (flags + 8192) / 8192 % 2 ≡ 1 = omega (arith, other) in
    let offset : (flags + 8192) % 8192 ≡ flags % 8192 = omega arith in
    let dont : (flags + 8192) / 16384 % 2 ≡ flags / 16384 % 2 = omega (arith, other) in
    let reserved : (flags + 8192) / 32768 ≡ flags / 32768 = omega (arith, other) in
    record {
      more = ap has_more same ∙ ap (λ (n : ℕ). eqb n 1) odd;
      offset = ap (λ (n : ℕ). n % 8192) same ∙ offset;
      dont_fragment = ap (λ (n : ℕ). n / 16384 % 2) same ∙ dont;
      reserved = ap (λ (n : ℕ). n / 32768) same ∙ reserved;
      narrow = omega (arith, same, narrow, other);
    }

pub stays-with_more : (flags : ℕ) → flags < 65536 → StaysWithMore flags
stays-with_more flags narrow = by_more flags (has_more flags) refl narrow

-- what stays of the word where the offset is raised
pub record StaysRaised (flags eighths : ℕ) : Type 0 where
  pub more : has_more (flags + eighths) ≡ has_more flags
  pub offset : (flags + eighths) % 8192 ≡ flags % 8192 + eighths
  pub dont_fragment : (flags + eighths) / 16384 % 2 ≡ flags / 16384 % 2
  pub reserved : (flags + eighths) / 32768 ≡ flags / 32768
  pub narrow : flags + eighths < 65536

pub stays-raised : (flags eighths : ℕ) → flags < 65536 → flags % 8192 + eighths ≤ 8191 → StaysRaised flags eighths
stays-raised flags eighths narrow near =
    let high : (flags + eighths) / 8192 ≡ flags / 8192 = omega (arith, near) in
    record {
      more = ap (λ (n : ℕ). eqb (n % 2) 1) high;
      offset = omega (arith, near);
      dont_fragment = omega (arith, near);
      reserved = omega (arith, near);
      narrow = omega (arith, near, narrow);
    }
