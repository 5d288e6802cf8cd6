use Rattle.std.proofs.Common.{subst, sym}
use Rattle.router_core.specs.Turning.{AreTurned}
use Rattle.router_core.specs.declared.turns.Turns.{Turns}
use Rattle.router_core.proofs.KeptTurnsLemmas.{nothing-known}
use Rattle.router_core.proofs.table.Table.known_before.Goals as goal

pub returns-clause-known : goal.returns-clause-known
returns-clause-known c =
    let parts = c.args.self.now.parts in
    subst (λ (turns : Turns). AreTurned parts.own turns parts.observed.probes parts.mappings) (sym c.no_turns.ensures) (nothing-known parts.own parts.observed.probes parts.mappings)
