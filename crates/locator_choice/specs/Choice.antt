-- The choice among locators by priority and weight (RFC 9301, section 5.4).
use Rattle.std.specs.Prelude.{ℕ, suc, ◌-◌, ◌%◌, ◌==◌, ◌&&◌, min, nat_lt, Bool, true, List, [], ◌∷◌, filter, map, sum, Option, Some, None, option_map, if◌then◌else◌}
use Rattle.std.specs.List.{list_all}
use Rattle.locator_choice.specs.declared.choice.Candidate.{Candidate}

-- the least priority of the candidates that are usable, 255 without one
abbrev pub least_priority : List Candidate → ℕ
least_priority [] = 255
least_priority (candidate ∷ others) =
    if candidate.usable then min candidate.priority (least_priority others) else least_priority others

-- whether a candidate takes part: it is usable, and of that priority
abbrev pub takes_part : ℕ → Candidate → Bool
takes_part priority candidate = candidate.usable && (candidate.priority == priority)

-- the candidates that take part: the usable ones of that priority
abbrev pub partaking : ℕ → List Candidate → List Candidate
partaking priority candidates = filter (takes_part priority) candidates

-- whether all candidates have one weight
abbrev pub one_weight : List Candidate → Bool
one_weight [] = true
one_weight (candidate ∷ others) = list_all (λ other. other.weight == candidate.weight) others

-- the share of a candidate: its weight, or 1 where all weights are equal; 0 where it takes no part
abbrev pub share : Bool → ℕ → Candidate → ℕ
share equal priority candidate =
    if takes_part priority candidate then (if equal then 1 else candidate.weight) else 0

-- the shares of all candidates, of which those of that priority take part
abbrev pub shares_by : ℕ → List Candidate → List ℕ
shares_by priority candidates = map (share (one_weight (partaking priority candidates)) priority) candidates

abbrev pub shares : List Candidate → List ℕ
shares candidates = shares_by (least_priority candidates) candidates

-- the index of the interval that holds a number, where intervals of these sizes lie end to end, or None
abbrev pub interval_of : List ℕ → ℕ → Option ℕ
interval_of [] n = None
interval_of (size ∷ sizes) n = if nat_lt n size then Some 0 else option_map suc (interval_of sizes (n - size))

-- the index of the candidate whose interval holds the flow's hash modulo the sum of all shares (this router's choice)
abbrev pub chosen : List Candidate → ℕ → Option ℕ
chosen candidates hash = interval_of (shares candidates) (hash % sum (shares candidates))
