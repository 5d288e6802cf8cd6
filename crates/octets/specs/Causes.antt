-- Counts of faults, which show the cause of an error.
use Rattle.std.specs.Prelude.{ℕ, ◌+◌, ◌-◌, ◌^◌, ◌≤◌, min}

-- a count of 64 bits rose, or stands at its type's end, where it can't rise
abbrev pub Rose : ℕ → ℕ → Type 0
Rose before now = min (before + 1) (2 ^ 64 - 1) ≤ now
