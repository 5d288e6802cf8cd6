-- Seconds in ascending order, between two moments.
use Rattle.std.specs.Prelude.{ℕ, ◌*◌, ◌<◌, ◌≤◌, List, [], ◌∷◌}

-- seconds in ascending order, each of which begins after the moment `from`, and not after the moment `to`
abbrev pub AreBetween : ℕ → ℕ → List ℕ → Type 0
AreBetween from to [] = Unit {0}
AreBetween from to (second ∷ seconds) =
    (from < second * 1000000000) × ((second * 1000000000 ≤ to) × AreBetween (second * 1000000000) to seconds)
