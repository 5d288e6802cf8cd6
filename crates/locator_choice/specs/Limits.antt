-- The limits of the choice, and the ports that flows get.
use Rattle.std.specs.Prelude.{ℕ}

-- the most candidates among which one is chosen: the locators of one mapping (this router's choice)
abbrev pub most_candidates : ℕ
most_candidates = 32

-- the least source port of a tunnel packet (RFC 9300 section 12 leaves it open; this router's choice)
abbrev pub first_port : ℕ
first_port = 0xc000
