-- A value under a test.
use Rattle.std.specs.Prelude.{Bool, Option, Some, None, if◌then◌else◌}
pub use Rattle.keyed_list.specs.Lists.{last_where, later}

-- a value, where it passes a test
abbrev pub only_if : {A : Type 0} → (A → Bool) → Option A → Option A
only_if test None = None
only_if test (Some value) = if test value then Some value else None
