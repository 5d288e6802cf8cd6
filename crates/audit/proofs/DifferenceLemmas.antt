-- Where lists differ, from a place on.
use Rattle.std.proofs.Common.{◌≡◌, ℕ, zero, suc, ◌≤◌, List, [], ◌∷◌, drop, length, refl, arith}
use Rattle.audit.specs.Compared.{first_difference}

-- before the end of a list that has ended
difference-end : (due : List ℕ) → first_difference due [] ≡ 0
difference-end [] = refl
difference-end (x ∷ due) = refl

-- from the end of the second one on
pub difference-sent : (place : ℕ) (due sent : List ℕ) → length sent ≤ place → first_difference (drop place due) (drop place sent) ≡ 0
difference-sent zero due [] over = difference-end due
difference-sent zero due (y ∷ sent) over = absurd (omega arith)
difference-sent (suc place) due [] over = difference-end (drop (suc place) due)
difference-sent (suc place) [] (y ∷ sent) over = refl
difference-sent (suc place) (x ∷ due) (y ∷ sent) over = difference-sent place due sent (omega arith)
