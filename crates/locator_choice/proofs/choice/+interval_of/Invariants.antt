use Rattle.std.proofs.Common.{length}
use Rattle.locator_choice.proofs.choice.+interval_of.Given as goal

abbrev pub decreases-interval_of : goal.decreases-interval_of
decreases-interval_of l = length l.candidates.now
