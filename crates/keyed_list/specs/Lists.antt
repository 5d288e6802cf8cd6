-- The last item that passes a test.
use Rattle.std.specs.Prelude.{Bool, List, fold, Option, Some, None, if◌then◌else◌}

-- an item where it passes a test, or else the one that did before
abbrev pub later : {A : Type 0} → (A → Bool) → Option A → A → Option A
later test before item = if test item then Some item else before

-- the last item that passes a test, or None
abbrev pub last_where : {A : Type 0} → (A → Bool) → List A → Option A
last_where test items = fold (later test) None items
