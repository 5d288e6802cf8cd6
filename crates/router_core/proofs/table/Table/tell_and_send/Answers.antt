use Rattle.std.proofs.Common.{◌≡◌, ℕ, ◌+◌, ◌∙◌, List, ap, ap₂, arith, filter, length, sym}
use Rattle.lisp_settings.specs.declared.settings.Settings.{Settings}
use Rattle.request_queue.specs.Queue.{all_due, due}
use Rattle.request_queue.specs.declared.request.Request.{Request}
use Rattle.router_model.specs.Parts.{table}
use Rattle.router_model.specs.Site.{reaches_resolver}
use Rattle.router_model.specs.Tick.{all_probed, retried_where}
use Rattle.router_core.specs.Steps.{so_far}
use Rattle.router_core.proofs.SecondLemmas.{told-from}
use Rattle.router_core.proofs.StepLemmas.{may-behind, still-at, taken-both}
use Rattle.router_core.proofs.table.Table.tell_and_send.Goals as goal

pub retry_due-requires-clause-may : goal.retry_due-requires-clause-may
retry_due-requires-clause-may c = may-behind (length c.args.due.now) (omega arith) c.requires.may c.tell_found.ensures.taken

pub retry_due-requires-clause-due : goal.retry_due-requires-clause-due
retry_due-requires-clause-due c =
    still-at (λ (site : Settings) (m : ℕ). c.args.due.now ≡ all_due m c.tell_found.new.self.parts.requests) c.tell_found.ensures.taken
    (c.requires.due ∙ ap (λ (l : List Request). filter (due c.args.step.now.m) l) (sym c.tell_found.ensures.waits))

pub probe_next-requires-clause-may : goal.probe_next-requires-clause-may
probe_next-requires-clause-may c =
    may-behind 16 (omega arith) c.requires.may (taken-both (4096 + length c.args.due.now) (omega arith) c.tell_found.ensures.taken c.retry_due.ensures.taken)

pub returns-clause-change : goal.returns-clause-change
returns-clause-change c =
    let told = c.tell_found.ensures.taken in
    let sent = c.retry_due.ensures.taken in
    told-from c.args.step.now.site.now c.args.step.now.m _ _ _ (so_far c.args.self.now.parts c.args.step.now)
    c.tell_found.ensures.change
    (c.retry_due.ensures.change
    ∙ ap₂ (λ (site : Settings) (m : ℕ). retried_where table site m (reaches_resolver site) (so_far c.tell_found.new.self.parts c.tell_found.new.step)) told.site told.moment)
    (c.probe_next.ensures.change
    ∙ ap₂ (λ (site : Settings) (m : ℕ). all_probed table site m (so_far c.retry_due.new.self.parts c.retry_due.new.step)) (sent.site ∙ told.site) (sent.moment ∙ told.moment))

pub returns-clause-taken : goal.returns-clause-taken
returns-clause-taken c =
    taken-both _ (omega arith) (taken-both (4096 + length c.args.due.now) (omega arith) c.tell_found.ensures.taken c.retry_due.ensures.taken) c.probe_next.ensures.taken
