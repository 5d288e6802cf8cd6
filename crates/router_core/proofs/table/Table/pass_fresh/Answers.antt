use Rattle.std.proofs.Common.{sym}
use Rattle.router_core.specs.Turning.{names_at}
use Rattle.router_core.proofs.NextNameLemmas.{next-fewer}
use Rattle.router_core.proofs.PassedLemmas.{known-next}
use Rattle.router_core.proofs.table.Table.pass_fresh.Goals as goal

pub loop-rloc-smaller : goal.loop-rloc-smaller
loop-rloc-smaller c =
    next-fewer c.loop-rloc.covered (names_at c.args.m c.args.self.now.parts.mappings) (c.in-Some.rloc, c.in-Some.field-0-1) c.in-Some.ensures.some

pub loop-rloc-preserved : goal.loop-rloc-preserved
loop-rloc-preserved c =
    known-next c.args.self.now.parts.own c.args.turns c.args.self.now.parts.observed.probes (names_at c.args.m c.args.self.now.parts.mappings) c.loop-rloc.covered c.loop-rloc.invariant c.args.site.now c.args.m (c.in-Some.rloc, c.in-Some.field-0-1) c.requires.own c.requires.walked c.in-Some.ensures.some (sym c.if-is_fresh.ensures)
