use Rattle.std.proofs.Common.{length}
use Rattle.router_core.proofs.table.Table.+probe_each.Given as goal

abbrev pub decreases-probe_each : goal.decreases-probe_each
decreases-probe_each l = length l.targets.now
