use Rattle.std.proofs.Common.{length}
use Rattle.router_core.proofs.turns.+turns_with.Given as goal

abbrev pub decreases-turns_with : goal.decreases-turns_with
decreases-turns_with l = length l.locators.now
