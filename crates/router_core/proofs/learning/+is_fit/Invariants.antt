use Rattle.std.proofs.Common.{length}
use Rattle.router_core.proofs.learning.+is_fit.Given as goal

abbrev pub decreases-is_fit : goal.decreases-is_fit
decreases-is_fit l = length l.mappings.now
