use Rattle.std.proofs.Common.{◌≡◌, length, fold}
use Rattle.ip_headers.specs.Checksum.{ones_add, words}
use Rattle.ip_headers.proofs.sums.sum_from.Given as goal

abbrev pub invariant-loop-rest : goal.invariant-loop-rest
invariant-loop-rest l = fold ones_add l.sum (words l.rest) ≡ fold ones_add l.fn.start (words l.octets)

abbrev pub decreases-loop-rest : goal.decreases-loop-rest
decreases-loop-rest l = length l.rest
