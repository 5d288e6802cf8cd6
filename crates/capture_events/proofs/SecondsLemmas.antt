-- Seconds in a row.
use Rattle.std.proofs.Common.{◌≡◌, ◌∙◌, ℕ, zero, suc, ◌+◌, ◌-◌, ◌*◌, ◌<◌, ◌≤◌, List, [], ◌∷◌, ◌++◌, append_assoc, arith, refl}
use Rattle.std.specs.List.{range_with_len}
use Rattle.capture_events.specs.Events.{second_of}
use Rattle.capture_events.specs.Seconds.{AreBetween}

-- the first of seconds in a row, and the others
pub row-first : (next end : ℕ) → next < end → range_with_len next (end - next) ≡ next ∷ range_with_len (next + 1) (end - (next + 1))
row-first next end less =
    let more : end - next ≡ suc (end - (next + 1)) = omega (arith, less) in
    rw more refl

-- seconds in a row from one that begins after a moment, up to the second of another moment
pub row-between : (from to first n : ℕ) → from < first * 1000000000 → n ≤ second_of to + 1 - first → AreBetween from to (range_with_len first n)
row-between from to first zero before within = tt
row-between from to first (suc n) before within =
    let begun : first * 1000000000 ≤ to = grind (arith, within) in
    let later : first * 1000000000 < (first + 1) * 1000000000 = omega arith in
    let rest : n ≤ second_of to + 1 - (first + 1) = omega (arith, within) in
    (before, (begun, row-between (first * 1000000000) to (first + 1) n later rest))

module _ {X : Type 0} (done : List X) (next : X) (rest all : List X) (due : done ++ next ∷ rest ≡ all) where
  -- the next one of what is due was done
  pub due-done : (done ++ next ∷ []) ++ rest ≡ all
  due-done = append_assoc done (next ∷ []) rest ∙ due
