use Rattle.std.proofs.Common.{◌∙◌, List, ap, ap₂, arith}
use Rattle.router_log.specs.declared.emit.Emit.{Emit}
use Rattle.router_log.specs.declared.entry.Entry.{Entry}
use Rattle.router_log.specs.declared.entry.Entry.TheVariants.{Retried}
use Rattle.router_model.specs.Parts.{Parts, with_entry}
use Rattle.router_core.specs.Table.{change_of}
use Rattle.router_core.proofs.TickingLemmas.{owed-again, retried-change}
use Rattle.router_core.proofs.table.Table.retry_one.Goals as goal
use Rattle.request_queue.specs.Queue.{waiting}

pub retry-requires-clause-again : goal.retry-requires-clause-again
retry-requires-clause-again c = owed-again (waiting c.args.step.now.m c.args.self.now.parts.requests) c.args.request.now c.requires.owed

pub returns-clause-change : goal.returns-clause-change
returns-clause-change c =
    let settings = c.args.step.now.site.now in
    let m = c.args.step.now.m in
    let p = c.args.self.now.parts in
    let request = c.args.request.now in
    ap (λ (q : Parts). change_of q c.push.new.self.entries.items c.push.new.self.emits.items) c.retry.ensures.parts
    ∙ ap₂ (λ (e : List Entry) (f : List Emit). change_of (with_entry (Retried m request.nonce) p) e f) c.push.ensures.entries c.push.ensures.emits
    ∙ retried-change settings m request p c.args.step.now.entries.items c.args.step.now.emits.items c.requires.may.enter.later (omega (arith, c.requires.may.enter.count)) c.requires.owed
