-- Moments and ages, in nanoseconds.
use Rattle.std.specs.Prelude.{ℕ, ◌*◌, ◌-◌, nat_lt, Bool}

-- n seconds, in nanoseconds
abbrev pub seconds : ℕ → ℕ
seconds n = n * 1000000000

-- whether an event at a moment is, at the moment `now`, less than n seconds old
abbrev pub younger : ℕ → ℕ → ℕ → Bool
younger now n moment = nat_lt (now - moment) (seconds n)
