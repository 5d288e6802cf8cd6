use Rattle.std.proofs.Common.{length}
use Rattle.router_core.proofs.table.Table.+make_changes.Given as goal

abbrev pub decreases-make_changes : goal.decreases-make_changes
decreases-make_changes l = length l.changes.now
