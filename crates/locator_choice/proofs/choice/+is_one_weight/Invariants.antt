use Rattle.std.proofs.Common.{length}
use Rattle.locator_choice.proofs.choice.+is_one_weight.Given as goal

abbrev pub decreases-is_one_weight : goal.decreases-is_one_weight
decreases-is_one_weight l = length l.candidates.now
