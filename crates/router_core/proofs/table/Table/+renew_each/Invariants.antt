use Rattle.std.proofs.Common.{length}
use Rattle.router_core.proofs.table.Table.+renew_each.Given as goal

abbrev pub decreases-renew_each : goal.decreases-renew_each
decreases-renew_each l = length l.eids.now
