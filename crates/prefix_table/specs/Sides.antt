-- The two sides of a node, which the bit behind its length tells apart.
use Rattle.std.specs.Prelude.{ℕ, Bool, if◌then◌else◌}
use Rattle.prefix_table.specs.declared.node.Sides.{Sides}

-- the bit of a side, as a number
abbrev pub bit_of : Bool → ℕ
bit_of side = if side then 1 else 0

-- both sides: `near` is on that one, and `far` on the other
abbrev pub sides : {T : Type 0} → Bool → T → T → Sides T
sides side near far = record { zero = if side then far else near; one = if side then near else far }

-- what is on that side
abbrev pub on_side : {T : Type 0} → Bool → Sides T → T
on_side side both = if side then both.one else both.zero
