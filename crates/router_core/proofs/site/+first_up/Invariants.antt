use Rattle.std.proofs.Common.{length}
use Rattle.router_core.proofs.site.+first_up.Given as goal

abbrev pub decreases-first_up : goal.decreases-first_up
decreases-first_up l = length l.locators.now
