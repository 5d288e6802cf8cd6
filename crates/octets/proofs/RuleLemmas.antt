-- Rules that pass, tables one after another, and answers by rules.
use Rattle.std.proofs.Common.{◌≡◌, Bool, true, false, List, [], ◌∷◌, ◌++◌, Some, None, refl}
use Rattle.octets.specs.Rules.{first_failing}

-- each rule of the table holds
abbrev pub AllHold : {X : Type 0} → List (Bool × X) → Type 0
AllHold [] = Unit {0}
AllHold (rule ∷ rules) = (rule.0 ≡ true) × AllHold rules

-- where no rule fails, each holds
pub all_hold : {X : Type 0} (rules : List (Bool × X)) → first_failing rules ≡ None → AllHold rules
all_hold [] none = tt
all_hold ((true, answer) ∷ rules) none = (refl, all_hold rules none)
all_hold ((false, answer) ∷ rules) none = cc

-- where each rule holds, none fails
pub none_fails : {X : Type 0} (rules : List (Bool × X)) → AllHold rules → first_failing rules ≡ None
none_fails [] hold = refl
none_fails ((true, answer) ∷ rules) hold = none_fails rules hold.1
none_fails ((false, answer) ∷ rules) hold = cc

-- behind a table that passes the next one counts
pub first_failing-append : {X : Type 0} (front back : List (Bool × X)) → first_failing front ≡ None → first_failing (front ++ back) ≡ first_failing back
first_failing-append [] back none = refl
first_failing-append ((true, answer) ∷ front) back none = first_failing-append front back none
first_failing-append ((false, answer) ∷ front) back none = cc

-- a table that refuses refuses before any other
pub first_failing-append_refused : {X : Type 0} (front back : List (Bool × X)) (answer : X) → first_failing front ≡ Some answer → first_failing (front ++ back) ≡ Some answer
first_failing-append_refused [] back answer some = cc
first_failing-append_refused ((true, other) ∷ front) back answer some = first_failing-append_refused front back answer some
first_failing-append_refused ((false, other) ∷ front) back answer some = some
