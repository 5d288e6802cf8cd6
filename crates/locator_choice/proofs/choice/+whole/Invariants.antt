use Rattle.std.proofs.Common.{length}
use Rattle.locator_choice.proofs.choice.+whole.Given as goal

abbrev pub decreases-whole : goal.decreases-whole
decreases-whole l = length l.candidates.now
