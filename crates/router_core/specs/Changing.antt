-- Changes of own locators in the order of their seconds.
use Rattle.std.specs.Prelude.{◌≤◌, List, [], ◌∷◌}
use Rattle.std.specs.List.{AllByRecursion}
use Rattle.lisp_settings.specs.declared.settings.Change.{Change}

-- the seconds of changes ascend
abbrev pub Ascend : List Change → Type 0
Ascend [] = Unit {0}
Ascend (change ∷ others) = AllByRecursion (λ other. change.at ≤ other.at) others × Ascend others
