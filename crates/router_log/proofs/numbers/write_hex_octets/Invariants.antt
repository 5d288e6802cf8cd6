use Rattle.std.proofs.Common.{◌≡◌, ◌+◌, ◌*◌, ◌≤◌, ◌++◌, length, drop, flat_map}
use Rattle.router_log.specs.Numbers.{fixed_hex}
use Rattle.router_log.proofs.numbers.write_hex_octets.Given as goal

abbrev pub invariant-loop-left : goal.invariant-loop-left
invariant-loop-left l =
    (l.left ≤ length l.octets) × (l.from + length l.octets * 2 ≡ l.end + l.left * 2)
    × (drop l.from l.text ≡ flat_map (fixed_hex 2) (drop l.left l.octets) ++ drop l.end l.fn.text)

abbrev pub decreases-loop-left : goal.decreases-loop-left
decreases-loop-left l = l.left
