use Rattle.std.proofs.Common.{length}
use Rattle.split_v4.proofs.limits.+has_v6.Given as goal

abbrev pub decreases-has_v6 : goal.decreases-has_v6
decreases-has_v6 l = length l.locators.now
