-- The limits of an audit.
use Rattle.std.specs.Prelude.{ℕ}

-- the most nonces that are lifted out of a capture (this router's choice)
abbrev pub most_lifted : ℕ
most_lifted = 1000000
