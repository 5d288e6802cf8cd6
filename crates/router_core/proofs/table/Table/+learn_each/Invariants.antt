use Rattle.std.proofs.Common.{length}
use Rattle.router_core.proofs.table.Table.+learn_each.Given as goal

abbrev pub decreases-learn_each : goal.decreases-learn_each
decreases-learn_each l = length l.records.now
