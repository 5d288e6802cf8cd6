use Rattle.std.proofs.Common.{◌∙◌, sym}
use Rattle.router_core.specs.Table.{change_of}
use Rattle.router_core.proofs.TickingLemmas.{retried-nowhere, retried-there}
use Rattle.router_core.proofs.table.Table.retry_due.Goals as goal

pub returns-then-not-reaches_resolver-clause-change : goal.returns-then-not-reaches_resolver-clause-change
returns-then-not-reaches_resolver-clause-change c =
    retried-nowhere c.args.step.now.site.now c.args.step.now.m _ (sym c.reaches_resolver.ensures ∙ c.if-not-reaches_resolver.true)

pub returns-clause-change : goal.returns-clause-change
returns-clause-change c =
    let before = change_of c.args.self.now.parts c.args.step.now.entries.items c.args.step.now.emits.items in
    c.retry_each.ensures.change
    ∙ retried-there c.args.step.now.site.now c.args.step.now.m before c.args.requests.now c.requires.due c.requires.may.enter.later (sym c.reaches_resolver.ensures ∙ c.if-not-reaches_resolver.false)
