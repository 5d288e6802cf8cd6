use Rattle.std.proofs.Common.{◌≡◌, ◌∙◌, None, subst, sym}
use Rattle.std.specs.List.{slice_get}
use Rattle.request_queue.specs.Queue.{all_due}
use Rattle.router_core.specs.Table.{TableSeen}
use Rattle.router_core.proofs.IdleLemmas.{copied-none, after-quiet, after-rest}
use Rattle.router_core.proofs.table.Table.is_idle.Goals as goal

pub returns-then-not-probes : goal.returns-then-not-probes
returns-then-not-probes c = λ so.
    let none : slice_get (all_due c.args.m c.args.self.now.parts.requests) 0 ≡ None =
    subst (λ (t : TableSeen). slice_get (all_due c.args.m t.parts.requests) 0 ≡ None) c.self.view_is
    (copied-none c.next_due.result _ c.next_due.ensures.first c.if-is_none.ensures) in
    after-quiet c.args.site.now c.args.self.now.parts c.args.m c.requires.now none (sym c.probes.ensures ∙ c.if-not-probes.true)

pub returns-else-not-probes : goal.returns-else-not-probes
returns-else-not-probes c = λ so.
    let none : slice_get (all_due c.args.m c.args.self.now.parts.requests) 0 ≡ None =
    subst (λ (t : TableSeen). slice_get (all_due c.args.m t.parts.requests) 0 ≡ None) c.self.view_is
    (copied-none c.next_due.result _ c.next_due.ensures.first c.if-is_none.ensures) in
    after-rest c.args.site.now c.args.self.now.parts c.args.m c.requires.now none (c.is_at_rest.ensures so c.args.site.now c.requires.own)
