use Rattle.std.proofs.Common.{length}
use Rattle.router_core.proofs.table.Table.+retry_each.Given as goal

abbrev pub decreases-retry_each : goal.decreases-retry_each
decreases-retry_each l = length l.requests.now
