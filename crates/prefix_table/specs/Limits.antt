-- The limits of a table.
use Rattle.std.specs.Prelude.{ℕ}

-- nodes that a look-up reads, at most: one for each length of an IPv6 prefix, from 0 to 128
abbrev pub most_nodes : ℕ
most_nodes = 129

-- pairs of a table, with those that there is room for, at most (this router's choice)
abbrev pub most_pairs : ℕ
most_pairs = 1073741824
