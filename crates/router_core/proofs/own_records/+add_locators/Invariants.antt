use Rattle.std.proofs.Common.{length}
use Rattle.router_core.proofs.own_records.+add_locators.Given as goal

abbrev pub decreases-add_locators : goal.decreases-add_locators
decreases-add_locators l = length l.locators.now
