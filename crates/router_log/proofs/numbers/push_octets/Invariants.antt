use Rattle.std.proofs.Common.{◌≡◌, ◌++◌, take, flat_map}
use Rattle.router_log.specs.Numbers.{fixed_hex}
use Rattle.router_log.proofs.numbers.push_octets.Given as goal

abbrev pub invariant-loop-octet : goal.invariant-loop-octet
invariant-loop-octet l = l.out ≡ l.fn.out ++ flat_map (fixed_hex 2) (take l.octet-index l.octets)
