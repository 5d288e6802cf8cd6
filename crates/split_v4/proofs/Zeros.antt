-- Some of three zeros.
use Rattle.std.proofs.Common.{◌≡◌, ◌≤◌, ℕ, zero, suc, [], ◌∷◌, take, replicate, refl, arith}

pub take-zeros : (n : ℕ) → n ≤ 3 → take {A = ℕ} n (0 ∷ 0 ∷ 0 ∷ []) ≡ replicate n 0
take-zeros zero few = refl
take-zeros (suc zero) few = refl
take-zeros (suc (suc zero)) few = refl
take-zeros (suc (suc (suc zero))) few = refl
take-zeros (suc (suc (suc (suc n)))) few = absurd (omega arith)
