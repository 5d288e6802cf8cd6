use Rattle.std.proofs.Common.{length}
use Rattle.router_core.proofs.site.+ours.Given as goal

abbrev pub decreases-ours : goal.decreases-ours
decreases-ours l = length l.locators.now
