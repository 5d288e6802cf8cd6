-- How many flows a candidate gets, for the law of the choice.
use Rattle.std.specs.Prelude.{ℕ, zero, suc, ◌+◌, ◌==◌, Bool, false, List, Option, Some, None, if◌then◌else◌}
use Rattle.locator_choice.specs.Choice.{chosen}
use Rattle.locator_choice.specs.declared.choice.Candidate.{Candidate}

-- whether index i is the one that was chosen, if one was
abbrev pub is_index : ℕ → Option ℕ → Bool
is_index i None = false
is_index i (Some index) = index == i

-- how many of the hashes below n choose candidate i
abbrev pub choosing : List Candidate → ℕ → ℕ → ℕ
choosing candidates i zero = 0
choosing candidates i (suc n) = (if is_index i (chosen candidates n) then 1 else 0) + choosing candidates i n
