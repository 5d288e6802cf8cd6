-- A checksum that was cleared before it was written.
use Rattle.std.proofs.Common.{◌≡◌, ◌≤◌, ℕ, List, ◌∷◌, length, refl, slice_set, arith}

pub overwritten : (packet : List ℕ) (high low : ℕ) → 12 ≤ length packet
    → slice_set (slice_set (slice_set (slice_set packet 10 0) 11 0) 10 high) 11 low ≡ slice_set (slice_set packet 10 high) 11 low
overwritten (a ∷ b ∷ c ∷ d ∷ e ∷ f ∷ g ∷ h ∷ i ∷ j ∷ k ∷ l ∷ rest) high low long = refl
overwritten packet high low long = absurd (omega arith)
