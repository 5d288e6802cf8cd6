use Rattle.std.proofs.Common.{length}
use Rattle.router_core.proofs.site.+any_up.Given as goal

abbrev pub decreases-any_up : goal.decreases-any_up
decreases-any_up l = length l.locators.now
