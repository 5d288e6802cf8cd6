-- Rules in order: each a test, and the value that a failed test gives.
use Rattle.std.specs.Prelude.{◌≡◌, Bool, List, [], ◌∷◌, Option, Some, None, Result, Err, IfErr, if◌then◌else◌}

-- the value of the first rule that fails
abbrev pub first_failing : {X : Type 0} → List (Bool × X) → Option X
first_failing [] = None
first_failing (rule ∷ rules) = if rule.0 then first_failing rules else Some rule.1

-- the fault of the rule that failed is the result; where no rule failed, only memory can fail
abbrev pub FailsBy : {X T E : Type 0} → (X → E) → E → Option X → Result T E → Type 0
FailsBy fault memory (Some failed) result = result ≡ Err (fault failed)
FailsBy fault memory None result = IfErr result (λ given. given ≡ memory)
