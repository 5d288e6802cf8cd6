-- The numbers of names in a ring and behind all rings.
use Rattle.std.specs.Prelude.{ℕ}

-- the number of names in a ring (this router's choice)
abbrev pub ring_names : ℕ
ring_names = 512

-- how many names lie behind all rings once a ring was closed (this router's choice)
abbrev pub spare_names : ℕ
spare_names = 64
