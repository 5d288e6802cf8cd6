use Rattle.std.proofs.Common.{◌≡◌, fold, drop}
use Rattle.locator_choice.specs.Hash.{hashed}
use Rattle.locator_choice.proofs.hash.hash_octets.Given as goal

abbrev pub invariant-loop-octet : goal.invariant-loop-octet
invariant-loop-octet l = fold hashed l.hash (drop l.octet-index l.octets) ≡ fold hashed l.fn.hash l.octets
