-- Numbers of n octets in a list of octets.
use Rattle.std.specs.Prelude.{ℕ, Bool, List, drop, if◌then◌else◌}
use Rattle.byteorder.specs.Endian.{big_number, little_number, big_bytes, little_bytes}

-- the number in the n octets at a place, the highest first
abbrev pub big : ℕ → List ℕ → ℕ → ℕ
big n octets at = big_number n (drop at octets)

-- the number in the n octets at a place, the lowest first
abbrev pub little : ℕ → List ℕ → ℕ → ℕ
little n octets at = little_number n (drop at octets)

-- the n octets of a number, the highest first
abbrev pub big_octets : ℕ → ℕ → List ℕ
big_octets n x = big_bytes n x

-- the n octets of a number, the lowest first
abbrev pub little_octets : ℕ → ℕ → List ℕ
little_octets n x = little_bytes n x

-- a flag's share of its number: its weight where it is set
abbrev pub flag : Bool → ℕ → ℕ
flag set weight = if set then weight else 0
