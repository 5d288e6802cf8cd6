use Rattle.std.proofs.Common.{length}
use Rattle.router_core.proofs.table.Table.+tell_locator.Given as goal

abbrev pub decreases-tell_locator : goal.decreases-tell_locator
decreases-tell_locator l = length l.databases.now
