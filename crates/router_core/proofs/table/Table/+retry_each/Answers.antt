use Rattle.std.proofs.Common.{rules, ℕ, ◌-◌, ◌∙◌, ap, ap₂, arith, drop, length, subst, sym, take}
use Rattle.lisp_settings.specs.declared.settings.Settings.{Settings}
use Rattle.request_queue.specs.Queue.{waiting}
use Rattle.request_queue.specs.declared.request.Request.{Request}
use Rattle.router_log.specs.declared.entry.Entry.TheVariants.{Retried}
use Rattle.router_model.specs.Changes.{each}
use Rattle.router_model.specs.Parts.{Parts, table, with_entry}
use Rattle.router_model.specs.Tick.{retried}
use Rattle.router_core.specs.Steps.{so_far}
use Rattle.router_core.specs.Ticking.{AreOwed}
use Rattle.router_core.proofs.StepLemmas.{may-behind, still-at}
use Rattle.router_core.proofs.TickingLemmas.{each-left, owed-left, length-left}
use Rattle.router_core.proofs.table.Table.+retry_each.Goals as goal

pub retry_each-requires : goal.retry_each-requires
retry_each-requires t c =
    let m = c.args.step.now.m in
    let p = c.args.self.now.parts in
    let requests = c.args.requests.now in
    let others = take (length requests - 1) (drop 1 requests) in
    let some = c.in-len1-up.len_at_least in
    let fewer = length-left requests some in
    let taken = c.retry_one.ensures.taken in
    let sent = c.retry_one.ensures.parts ∙ ap (λ (r : Request). with_entry (Retried m r.nonce) p) c.request-item.is in (
      search rules,
      (
        may-behind (length others) (omega (arith, fewer, some)) c.requires.may taken,
        still-at (λ (site : Settings) (m : ℕ). AreOwed (waiting m c.retry_one.new.self.parts.requests) others) taken
            (subst (λ (q : Parts). AreOwed (waiting m q.requests) others) (sym sent)
            (owed-left m p requests c.request-item.result some c.requires.owed)),
      ),
    )

pub returns-clause-change : goal.returns-clause-change
returns-clause-change t c =
    let requests = c.args.requests.now in
    let others = take (length requests - 1) (drop 1 requests) in
    let step = retried table c.args.step.now.site.now c.args.step.now.m in
    let taken = c.retry_one.ensures.taken in
    c.retry_each.ensures.change
    ∙ ap₂ (λ (site : Settings) (m : ℕ). each (retried table site m) others (so_far c.retry_one.new.self.parts c.retry_one.new.step)) taken.site taken.moment
    ∙ ap (each step others) (c.retry_one.ensures.change ∙ ap (λ (r : Request). step r (so_far c.args.self.now.parts c.args.step.now)) c.request-item.is)
    ∙ each-left step requests c.request-item.result _ c.in-len1-up.len_at_least
