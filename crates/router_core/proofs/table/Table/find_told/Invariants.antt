use Rattle.std.proofs.Common.{◌<◌, vec_capacity}
use Rattle.router_core.specs.Turning.{names_at}
use Rattle.router_core.proofs.NextNameLemmas.{names_left}
use Rattle.router_core.proofs.ToldLemmas.{AreTold}
use Rattle.router_core.proofs.table.Table.find_told.Given as goal

-- those that are covered and may be told were found
abbrev pub invariant-loop-covered : goal.invariant-loop-covered
invariant-loop-covered l = AreTold l.site (names_at l.m l.self.parts.mappings) l.covered l.told.items × (64 < vec_capacity l.told)

abbrev pub decreases-loop-covered : goal.decreases-loop-covered
decreases-loop-covered l = names_left l.covered (names_at l.m l.self.parts.mappings)
