-- Map-Versions, RFC 9302: numbers of 12 bits in a circle, of which 0 is none.
use Rattle.std.specs.Prelude.{ℕ, ◌+◌, ◌-◌, ◌%◌, ◌==◌, ◌||◌, ◌&&◌, nat_le, nat_lt, Bool, if◌then◌else◌}

-- a exceeds b by at most 2,048, or is less than b by more than that; at a distance of just 2,048
-- the greater number is the newer one (this router's choice)
abbrev pub newer : ℕ → ℕ → Bool
newer a b = nat_lt b a && nat_le (a - b) 2048 || nat_lt (a + 2048) b

-- the next version, which is never 0
abbrev pub successor : ℕ → ℕ
successor a = if a == 4095 then 1 else a + 1

-- a lies 1 to 2,048 steps ahead of b in the circle of 4,096 numbers
abbrev pub ahead : ℕ → ℕ → Bool
ahead a b = nat_le 1 ((a + 4096 - b) % 4096) && nat_le ((a + 4096 - b) % 4096) 2048
