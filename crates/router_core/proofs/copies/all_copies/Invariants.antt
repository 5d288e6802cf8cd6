use Rattle.std.proofs.Common.{◌≡◌, take}
use Rattle.router_core.specs.Copies.{all_copies}
use Rattle.router_core.proofs.copies.all_copies.Given as goal

abbrev pub invariant-loop-mapping : goal.invariant-loop-mapping
invariant-loop-mapping l = l.copies.items ≡ all_copies (take l.mapping-index l.mappings)
