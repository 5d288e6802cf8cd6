use Rattle.std.proofs.Common.{◌∙◌, Option, List, sym, ap, ap₂}
use Rattle.ip_headers.specs.declared.addr.Addr.{Addr}
use Rattle.locator_state.specs.Probes.{probe_open}
use Rattle.router_log.specs.declared.emit.Emit.{Emit}
use Rattle.router_log.specs.declared.entry.Entry.{Entry}
use Rattle.router_log.specs.declared.entry.Entry.TheVariants.{ProbeAnswered}
use Rattle.router_log.specs.declared.verdict.Done.TheVariants.{ProbeReply}
use Rattle.router_model.specs.Changes.{unchanged}
use Rattle.router_model.specs.Hear.{probe_replied, takes}
use Rattle.router_model.specs.Parts.{Parts, table, with_entry}
use Rattle.router_core.specs.Table.{TableSeen, change_of, heard_seen}
use Rattle.router_core.proofs.ProbeLemmas.{foreign-by, open-now, taken-by}
use Rattle.router_core.proofs.table.Table.hear_probe_reply.Goals as goal

pub returns-in_default-clause-parts : goal.returns-in_default-clause-parts
returns-in_default-clause-parts c settings =
    let m = c.args.m in
    let p = c.args.self.now.parts in
    let reply = c.args.reply.now in
    let found = open-now p m reply.nonce c.requires.may.later ∙ sym (ap (λ (t : TableSeen). probe_open m t.parts.observed.probes reply.nonce) c.self.view_is) ∙ sym c.probe_open.ensures ∙ c.in_default.is in
    ap (heard_seen p) c.dropped.ensures
    ∙ ap (λ (o : Option Addr). probe_replied table settings m c.args.from reply o (unchanged p)) (sym found)

pub returns-then-not-same_address-clause-parts : goal.returns-then-not-same_address-clause-parts
returns-then-not-same_address-clause-parts c settings =
    let m = c.args.m in
    let p = c.args.self.now.parts in
    let reply = c.args.reply.now in
    let found = open-now p m reply.nonce c.requires.may.later ∙ sym (ap (λ (t : TableSeen). probe_open m t.parts.observed.probes reply.nonce) c.self.view_is) ∙ sym c.probe_open.ensures ∙ c.in-Some.is in
    ap (heard_seen p) c.dropped-then-not-same_address.ensures
    ∙ foreign-by settings m c.args.from c.in-Some.rloc reply p found (sym c.same_address.ensures ∙ c.if-not-same_address.true)

pub returns-clause-parts : goal.returns-clause-parts
returns-clause-parts c settings =
    let m = c.args.m in
    let p = c.args.self.now.parts in
    let reply = c.args.reply.now in
    let found = open-now p m reply.nonce c.requires.may.later ∙ sym (ap (λ (t : TableSeen). probe_open m t.parts.observed.probes reply.nonce) c.self.view_is) ∙ sym c.probe_open.ensures ∙ c.in-Some.is in
    let heard : Parts → List Entry → List Emit → _ = λ q e f. takes ProbeReply (change_of q e f) in
    ap (λ (q : Parts). heard q c.in_ok-entries.entries c.new.result) c.answer_probe.ensures.parts
    ∙ ap₂ (λ (e : List Entry) (f : List Emit). heard (with_entry (ProbeAnswered m reply.nonce) p) e f) c.in_ok-entries.ensures c.new.ensures
    ∙ taken-by settings m c.args.from c.in-Some.rloc reply p c.requires.may.later c.requires.may.count found (sym c.same_address.ensures ∙ c.if-not-same_address.false)
