use Rattle.std.proofs.Common.{length}
use Rattle.router_core.proofs.status.+differs.Given as goal

abbrev pub decreases-differs : goal.decreases-differs
decreases-differs l = length l.locators.now
