-- Status bits: the numbers that are kept have the bits that the journal tells.
use Rattle.std.proofs.Common.{◌≡◌, ℕ, ◌+◌, ◌-◌, ◌/◌, ◌%◌, ◌^◌, ◌<◌, ◌≤◌, ◌==◌, ◌&&◌, nat_lt, min, Bool, true, false, cond, [], ◌∷◌, Option, Some, None, unwrap_or, refl, sym, ap, ◌∙◌, arith, mod-lt}
use Rattle.std.specs.Int.{bit_at}
use Rattle.std.proofs.lemmas.Bool.Decides.{nat_tests}
use Rattle.std.proofs.lemmas.Nat.{and_mask, pow_pos, shr-shr}
use Rattle.std.proofs.lemmas.Nat.Bits.{bit_at-zero, bit_at_and, bit_at_ones, bit_at_cat_low, bit_at_cat_high, bit_at-lt}
use Rattle.mapping_records.specs.declared.eid.Eid.{Eid}
use Rattle.mapping_records.specs.declared.record.Locator.{Locator}
use Rattle.router_log.specs.declared.entry.Entry.{Entry}
use Rattle.router_log.specs.declared.entry.Entry.TheVariants.{Learned, Bits}
use Rattle.router_model.specs.Cache.{kept, known_since, known_up, told_since}
use Rattle.map_cache.specs.Cache.{lowest_from}
use Rattle.mapping_records.specs.Eids.{same_eid}
use Rattle.router_model.specs.Journal.{Journal}
use Rattle.router_model.specs.Mappings.{Learning, bit_told, bits_up}

abbrev pub low_bits : ℕ → ℕ → ℕ → ℕ
low_bits width bits n = lowest_from width n bits

-- the low bits are the new ones
low_bits-low : (width bits n i : ℕ) → i < width → bit_at (low_bits width bits n) i ≡ bit_at bits i
low_bits-low width bits n i low =
    bit_at_cat_low (n / 2 ^ width) width (bits % 2 ^ width) i low
    ∙ ap (λ b. bit_at b i) (sym (and_mask bits width))
    ∙ bit_at_and bits (2 ^ width - 1) i
    ∙ ap (min (bit_at bits i)) (bit_at_ones width i low)
    ∙ grind (arith, bit_at-lt bits i)

-- the others are as they were
low_bits-high : (width bits n i : ℕ) → width ≤ i → bit_at (low_bits width bits n) i ≡ bit_at n i
low_bits-high width bits n i high =
    bit_at_cat_high (n / 2 ^ width) width (bits % 2 ^ width) i (mod-lt bits (pow_pos width)) high
    ∙ ap (λ b. b % 2) (shr-shr n width (i - width))
    ∙ ap (λ k. n / 2 ^ k % 2) (let e : width + (i - width) ≡ i = omega arith in e)

-- the status bit of ordinal i that two numbers have, if it is known
abbrev pub bit_in : ℕ → ℕ → ℕ → Option Bool
bit_in i known told = cond (bit_at known i == 1) (Some (bit_at told i == 1)) None

bit_in-low : (width bits known told i : ℕ) → nat_lt i width ≡ true → bit_in i (low_bits width (2 ^ width - 1) known) (low_bits width bits told) ≡ Some (bit_at bits i == 1)
bit_in-low width bits known told i low =
    let within : i < width = grind (arith, nat_tests) in
    rw (low_bits-low width (2 ^ width - 1) known i within, bit_at_ones width i within, low_bits-low width bits told i within) refl

bit_in-high : (width bits known told i : ℕ) → nat_lt i width ≡ false → bit_in i (low_bits width (2 ^ width - 1) known) (low_bits width bits told) ≡ bit_in i known told
bit_in-high width bits known told i high =
    let past : width ≤ i = grind (arith, nat_tests) in
    rw (low_bits-high width (2 ^ width - 1) known i past, low_bits-high width bits told i past) refl

-- the numbers that are kept have the bit that the journal tells
pub bits-found : (eid : Eid) (i : ℕ) (journal : Journal) → bit_in i (known_since eid journal) (told_since eid journal) ≡ bit_told eid i journal
bits-found eid i [] = rw (bit_at-zero i) refl
bits-found eid i (entry ∷ older) = by entry (bits-found eid i older)
  where
    none : bit_in i 0 0 ≡ None
    none = rw (bit_at-zero i) refl

    by : (entry : Entry) → bit_in i (known_since eid older) (told_since eid older) ≡ bit_told eid i older → bit_in i (known_since eid (entry ∷ older)) (told_since eid (entry ∷ older)) ≡ bit_told eid i (entry ∷ older)
    by (Learned moment mapping fixed) h = learned (same_eid mapping.eid eid)
      where
        learned : (b : Bool) → bit_in i (cond b 0 (known_since eid older)) (cond b 0 (told_since eid older)) ≡ cond b None (bit_told eid i older)
        learned true = none
        learned false = h
    by (Bits moment of bits width) h = told (same_eid of eid) (nat_lt i width) refl
      where
        told : (b c : Bool) → nat_lt i width ≡ c → bit_in i (cond b (low_bits width (2 ^ width - 1) (known_since eid older)) (known_since eid older)) (cond b (low_bits width bits (told_since eid older)) (told_since eid older)) ≡ cond (b && c) (Some (bit_at bits i == 1)) (bit_told eid i older)
        told true true is = bit_in-low width bits (known_since eid older) (told_since eid older) i is
        told true false is = bit_in-high width bits (known_since eid older) (told_since eid older) i is ∙ h
        told false c is = h
    by _ h = h

-- a mapping that is kept has the status that the journal tells
pub status-found : (journal : Journal) (learning : Learning) (i : ℕ) (locator : Locator) → known_up (kept journal learning) i locator ≡ bits_up journal learning.mapping.eid i locator
status-found journal learning i locator = by (bit_at (known_since learning.mapping.eid journal) i == 1) ∙ ap (λ o. unwrap_or o locator.reachable) (bits-found learning.mapping.eid i journal)
  where
    by : (b : Bool) → cond b (bit_at (told_since learning.mapping.eid journal) i == 1) locator.reachable ≡ unwrap_or (cond b (Some (bit_at (told_since learning.mapping.eid journal) i == 1)) None) locator.reachable
    by true = refl
    by false = refl
