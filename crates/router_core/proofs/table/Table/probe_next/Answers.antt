use Rattle.std.proofs.Common.{◌∙◌, List, ap, sym}
use Rattle.locator_state.specs.declared.target.Target.{Target}
use Rattle.router_model.specs.Changes.{each}
use Rattle.router_model.specs.Parts.{Parts, table}
use Rattle.router_model.specs.Tick.{probed}
use Rattle.router_core.specs.Table.{TableSeen, change_of}
use Rattle.router_core.proofs.TickingLemmas.{probed-all, probed-none}
use Rattle.router_core.proofs.table.Table.probe_next.Goals as goal

pub returns-then-not-probes-clause-change : goal.returns-then-not-probes-clause-change
returns-then-not-probes-clause-change c = probed-none c.args.step.now.site.now c.args.step.now.m _ (sym c.probes.ensures ∙ c.if-not-probes.true)

pub returns-clause-change : goal.returns-clause-change
returns-clause-change c =
    let settings = c.args.step.now.site.now in
    let before = change_of c.args.self.now.parts c.args.step.now.entries.items c.args.step.now.emits.items in
    c.probe_each.ensures.change
    ∙ ap (λ (p : Parts). each (probed table settings c.args.step.now.m) c.deref.result.now (change_of p c.args.step.now.entries.items c.args.step.now.emits.items)) (ap (λ (t : TableSeen). t.parts) c.find_turns.ensures.same)
    ∙ ap (λ (l : List Target). each (probed table settings c.args.step.now.m) l before) (c.deref.ensures.value ∙ c.find_turns.ensures.items)
    ∙ probed-all settings c.args.step.now.m before (sym c.probes.ensures ∙ c.if-not-probes.false)
