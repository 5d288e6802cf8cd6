-- Worked values: a packet of 48 octets, 28 of them its header, and its halves.
use Rattle.std.specs.Prelude.{ℕ, List, [], ◌∷◌}

-- two options, of which the first is copied, and the end of options
abbrev pub two_options : List ℕ
two_options = 0x83 ∷ 4 ∷ 4 ∷ 1 ∷ 0x44 ∷ 3 ∷ 5 ∷ 0 ∷ []

-- two options, of which the first is copied, and a length that leaves two octets, which are no option
abbrev pub bad_options : List ℕ
bad_options = 0x83 ∷ 4 ∷ 4 ∷ 1 ∷ 0x44 ∷ 2 ∷ 5 ∷ 0 ∷ []

-- a fragment with these options, offset 185, more fragments behind it, and a payload of 20 octets
abbrev pub fragment : List ℕ
fragment =
    71 ∷ 4 ∷ 0 ∷ 48 ∷ 1 ∷ 2 ∷ 32 ∷ 185 ∷ 63 ∷ 17 ∷ 115 ∷ 229 ∷ 10 ∷ 1 ∷ 0 ∷ 5 ∷ 10 ∷ 2 ∷ 0 ∷
    9 ∷ 131 ∷ 4 ∷ 4 ∷ 1 ∷ 68 ∷ 3 ∷ 5 ∷ 0 ∷ 1 ∷ 2 ∷ 3 ∷ 4 ∷ 5 ∷ 6 ∷ 7 ∷ 8 ∷ 9 ∷ 10 ∷ 11 ∷ 12 ∷
    13 ∷ 14 ∷ 15 ∷ 16 ∷ 17 ∷ 18 ∷ 19 ∷ 20 ∷ []

-- the first half of the fragment, with 16 octets of payload
abbrev pub fragment_first : List ℕ
fragment_first =
    71 ∷ 4 ∷ 0 ∷ 44 ∷ 1 ∷ 2 ∷ 32 ∷ 185 ∷ 63 ∷ 17 ∷ 115 ∷ 233 ∷ 10 ∷ 1 ∷ 0 ∷ 5 ∷ 10 ∷ 2 ∷ 0 ∷
    9 ∷ 131 ∷ 4 ∷ 4 ∷ 1 ∷ 68 ∷ 3 ∷ 5 ∷ 0 ∷ 1 ∷ 2 ∷ 3 ∷ 4 ∷ 5 ∷ 6 ∷ 7 ∷ 8 ∷ 9 ∷ 10 ∷ 11 ∷ 12 ∷
    13 ∷ 14 ∷ 15 ∷ 16 ∷ []

-- the second half of the fragment, with the copied option alone, and offset 187
abbrev pub fragment_second : List ℕ
fragment_second =
    70 ∷ 4 ∷ 0 ∷ 28 ∷ 1 ∷ 2 ∷ 32 ∷ 187 ∷ 63 ∷ 17 ∷ 189 ∷ 250 ∷ 10 ∷ 1 ∷ 0 ∷ 5 ∷ 10 ∷ 2 ∷ 0 ∷
    9 ∷ 131 ∷ 4 ∷ 4 ∷ 1 ∷ 17 ∷ 18 ∷ 19 ∷ 20 ∷ []
