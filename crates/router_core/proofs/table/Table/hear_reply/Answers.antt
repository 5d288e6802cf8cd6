use Rattle.std.proofs.Common.{◌∙◌, Some, None, sym, ap}
use Rattle.std.proofs.lemmas.Result.{IfOk-weaker}
use Rattle.request_queue.specs.Queue.{waiting, with_nonce}
use Rattle.router_core.specs.Table.{TableSeen, heard_seen}
use Rattle.router_core.proofs.ChangeLemmas.{found-now, probe-by, reply-by}
use Rattle.router_core.proofs.table.Table.hear_reply.Goals as goal

pub returns-in-Some-clause-parts : goal.returns-in-Some-clause-parts
returns-in-Some-clause-parts c =
    let p = c.args.self.now.parts in
    let reply = c.args.reply.now in
    let among = λ (t : TableSeen). with_nonce (waiting c.args.m t.parts.requests) reply.nonce in
    let found = sym (found-now p c.args.m reply.nonce c.requires.may.later) ∙ sym (ap among c.self.view_is) ∙ sym c.find.ensures ∙ sym c.copied.ensures ∙ c.in-Some.is in
    IfOk-weaker c.learn_reply.result _ _ (λ heard is. is ∙ reply-by c.args.site.now c.args.m c.args.from reply p (Some c.in-Some.request) c.if-reply.false found) c.learn_reply.ensures.parts

pub returns-in-None-clause-parts : goal.returns-in-None-clause-parts
returns-in-None-clause-parts c =
    let p = c.args.self.now.parts in
    let reply = c.args.reply.now in
    let among = λ (t : TableSeen). with_nonce (waiting c.args.m t.parts.requests) reply.nonce in
    let found = sym (found-now p c.args.m reply.nonce c.requires.may.later) ∙ sym (ap among c.self.view_is) ∙ sym c.find.ensures ∙ sym c.copied.ensures ∙ c.in-None.is in
    ap (heard_seen p) c.dropped.ensures ∙ reply-by c.args.site.now c.args.m c.args.from reply p None c.if-reply.false found

pub returns-then-reply-clause-parts : goal.returns-then-reply-clause-parts
returns-then-reply-clause-parts c =
    let settings = c.args.site.now in
    IfOk-weaker c.hear_probe_reply.result _ _ (λ heard is. is settings ∙ probe-by settings c.args.m c.args.from c.args.reply.now c.args.self.now.parts c.if-reply.true) c.hear_probe_reply.ensures.parts
