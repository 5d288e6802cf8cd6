use Rattle.std.proofs.Common.{◌≡◌, ◌≤◌, ◌-◌, nat_lt, true, List, arith, ap, sym, subst, ◌∙◌}
use Rattle.std.proofs.lemmas.Bool.Decides.{nat_tests}
use Rattle.lisp_settings.specs.declared.settings.OwnLocator.{OwnLocator}
use Rattle.router_log.specs.Moments.{seconds}
use Rattle.router_core.specs.Table.{TableSeen}
use Rattle.router_core.specs.Turning.{AreTurned}
use Rattle.router_core.proofs.RestLemmas.{none-next}
use Rattle.router_core.proofs.table.Table.is_at_rest.Goals as goal

pub returns : goal.returns
returns c = λ so settings own.
    let kept = c.self.inside in
    let same : kept.own.items ≡ settings.locators = ap (λ (t : TableSeen). t.parts.own) c.self.view_is ∙ sym own in
    let known : AreTurned settings.locators kept.turns c.args.self.now.parts.observed.probes c.args.self.now.parts.mappings =
    subst (λ (t : TableSeen). AreTurned settings.locators kept.turns t.parts.observed.probes t.parts.mappings) c.self.view_is
    (subst (λ (l : List OwnLocator). AreTurned l kept.turns kept.locators.observed.probes kept.cache.mappings) same c.self.invariant.1.known) in
    let walked : kept.turns.walked ≤ c.args.m = grind (arith, nat_tests, c.if-self-m.false) in
    let rest : nat_lt (c.args.m - kept.turns.since) (seconds 60) ≡ true = grind (arith, nat_tests, so, c.saturating_sub.ensures) in
    none-next c.args.self.now.parts c.args.m settings kept.turns c.requires (c.is_all.ensures c.if-not-is_all.false) walked rest known
