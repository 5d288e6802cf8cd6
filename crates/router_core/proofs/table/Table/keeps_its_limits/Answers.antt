use Rattle.std.proofs.Common.{subst}
use Rattle.router_core.specs.Bounded.{KeepLimits}
use Rattle.router_core.specs.Table.{TableSeen}
use Rattle.router_core.proofs.table.Table.keeps_its_limits.Goals as goal

pub returns : goal.returns
returns c = subst (λ (t : TableSeen). KeepLimits t.parts.limits t.parts.mappings) c.self.view_is c.self.invariant.5.keeps
