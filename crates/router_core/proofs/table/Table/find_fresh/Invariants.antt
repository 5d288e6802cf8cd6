use Rattle.std.proofs.Common.{◌≤◌, vec_capacity}
use Rattle.router_core.specs.Turning.{eligible, names_at}
use Rattle.router_core.proofs.FreshLemmas.{AreFound}
use Rattle.router_core.proofs.NextNameLemmas.{names_left}
use Rattle.router_core.proofs.table.Table.find_fresh.Given as goal

-- those that are covered and have no probe were found; there is as much room as before
abbrev pub invariant-loop-covered : goal.invariant-loop-covered
invariant-loop-covered l =
    AreFound 16 (eligible l.site l.self.parts l.m) l.covered l.first.items × (vec_capacity l.fn.first ≤ vec_capacity l.first)

abbrev pub decreases-loop-covered : goal.decreases-loop-covered
decreases-loop-covered l = names_left l.covered (names_at l.m l.self.parts.mappings)
