use Rattle.std.proofs.Common.{◌≡◌, ◌<◌, ◌^◌, ◌+◌, ◌*◌, length}
use Rattle.ip_headers.specs.Checksum.{folded, plain_sum}
use Rattle.ip_headers.proofs.sums.wide_sum.Given as goal

abbrev pub invariant-loop-rest : goal.invariant-loop-rest
invariant-loop-rest l =
    (folded (plain_sum l.sum l.rest) ≡ folded (plain_sum l.fn.start l.octets))
    × (l.sum + length l.rest * 2 ^ 32 < 2 ^ 64)

abbrev pub decreases-loop-rest : goal.decreases-loop-rest
decreases-loop-rest l = length l.rest
