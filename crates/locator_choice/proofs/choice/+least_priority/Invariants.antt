use Rattle.std.proofs.Common.{length}
use Rattle.locator_choice.proofs.choice.+least_priority.Given as goal

abbrev pub decreases-least_priority : goal.decreases-least_priority
decreases-least_priority l = length l.candidates.now
