use Rattle.std.proofs.Common.{length}
use Rattle.router_core.proofs.learning.+is_asked_for.Given as goal

abbrev pub decreases-is_asked_for : goal.decreases-is_asked_for
decreases-is_asked_for l = length l.mappings.now
