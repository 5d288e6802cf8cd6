use Rattle.std.proofs.Common.{sym, subst}
use Rattle.router_core.specs.Bounded.{IsShortOut}
use Rattle.router_core.proofs.BoundLemmas.{out-short}
use Rattle.router_core.proofs.table.Table.echo_out.Goals as goal

pub returns-clause-short : goal.returns-clause-short
returns-clause-short c =
    subst IsShortOut (sym c.echo_out.ensures)
    (out-short c.moment_at.result c.self.inside.locators.observed c.args.rloc.now c.self.invariant.3)
