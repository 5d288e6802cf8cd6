use Rattle.std.proofs.Common.{length}
use Rattle.router_core.proofs.own_requests.+add_up.Given as goal

abbrev pub decreases-add_up : goal.decreases-add_up
decreases-add_up l = length l.locators.now
