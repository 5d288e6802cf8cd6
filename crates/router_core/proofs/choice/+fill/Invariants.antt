use Rattle.std.proofs.Common.{length}
use Rattle.router_core.proofs.choice.+fill.Given as goal

abbrev pub decreases-fill : goal.decreases-fill
decreases-fill l = length l.locators.now
