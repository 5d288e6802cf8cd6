use Rattle.router_core.specs.Turning.{SuitNames, names_at}
use Rattle.router_core.proofs.NextNameLemmas.{names_left}
use Rattle.router_core.proofs.PassedLemmas.{covering}
use Rattle.router_core.proofs.table.Table.pass_fresh.Given as goal

-- what is known holds of the names with what is covered so far
abbrev pub invariant-loop-rloc : goal.invariant-loop-rloc
invariant-loop-rloc l =
    SuitNames l.self.parts.own (covering l.covered l.turns) l.self.parts.observed.probes (names_at l.m l.self.parts.mappings)

-- the names that aren't covered so far
abbrev pub decreases-loop-rloc : goal.decreases-loop-rloc
decreases-loop-rloc l = names_left l.covered (names_at l.m l.self.parts.mappings)
