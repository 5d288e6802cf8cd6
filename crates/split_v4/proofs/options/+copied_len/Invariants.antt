use Rattle.std.proofs.Common.{length}
use Rattle.split_v4.proofs.options.+copied_len.Given as goal

abbrev pub decreases-copied_len : goal.decreases-copied_len
decreases-copied_len l = length l.octets.now
