use Rattle.std.proofs.Common.{◌-◌, length}
use Rattle.router_core.specs.Turning.{names_at}
use Rattle.router_core.proofs.PassedProbeLemmas.{ArePast}
use Rattle.router_core.proofs.table.Table.pass_rested.Given as goal

-- all probes before the place are passed
abbrev pub invariant-loop-moment : goal.invariant-loop-moment
invariant-loop-moment l = ArePast l.site (names_at l.m l.self.parts.mappings) l.m l.self.parts.observed.probes l.fn.turns l.place l.covered

abbrev pub decreases-loop-moment : goal.decreases-loop-moment
decreases-loop-moment l = length l.self.parts.observed.probes - l.place
