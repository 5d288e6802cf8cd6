use Rattle.std.proofs.Common.{length}
use Rattle.split_v4.proofs.options.+append_copied.Given as goal

abbrev pub decreases-append_copied : goal.decreases-append_copied
decreases-append_copied l = length l.octets.now
