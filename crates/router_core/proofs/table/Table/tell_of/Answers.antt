use Rattle.std.proofs.Common.{◌≡◌, ◌∙◌, ℕ, List, [], ◌∷◌, ◌++◌, sym, ap, ap₂, arith}
use Rattle.lisp_settings.specs.Nonces.{nonce_of}
use Rattle.lisp_settings.specs.declared.settings.Database.{Database}
use Rattle.request_queue.specs.Queue.{waiting}
use Rattle.router_log.specs.declared.emit.Emit.{Emit}
use Rattle.router_log.specs.declared.emit.Emit.TheVariants as emit
use Rattle.router_log.specs.declared.entry.Entry.{Entry}
use Rattle.router_log.specs.declared.entry.Entry.TheVariants.{Solicited}
use Rattle.router_model.specs.Parts.{Parts, with_entry}
use Rattle.router_core.specs.Table.{TableSeen, change_of}
use Rattle.router_core.proofs.TellingLemmas.{still-waiting, told-not, told-so}
use Rattle.router_core.proofs.table.Table.tell_of.Goals as goal

pub returns-then-not-may_be_solicited-clause-change : goal.returns-then-not-may_be_solicited-clause-change
returns-then-not-may_be_solicited-clause-change c version =
    let database : Database = record { eid = c.args.eid.now; version = version } in
    told-not c.args.step.now.site.now c.args.step.now.m c.args.address database (change_of c.args.self.now.parts c.args.step.now.entries.items c.args.step.now.emits.items) (sym c.may_be_solicited.ensures ∙ c.if-not-may_be_solicited.true)

pub returns-clause-change : goal.returns-clause-change
returns-clause-change c version =
    let settings = c.args.step.now.site.now in
    let m = c.args.step.now.m in
    let p = c.args.self.now.parts in
    let address = c.args.address in
    let eid = c.args.eid.now in
    let entries = c.args.step.now.entries.items in
    let emits = c.args.step.now.emits.items in
    let database : Database = record { eid = eid; version = version } in
    let entry : ℕ → Entry = λ n. Solicited m address eid n in
    let packet : ℕ → Emit = λ n. emit.Solicit address eid n in
    let n = c.nonce_at-nonce.result in
    let drawn : n ≡ nonce_of settings.seed settings.nonces p.drawn =
    c.nonce_at-nonce.ensures ∙ ap (λ (t : TableSeen). nonce_of settings.seed settings.nonces t.parts.drawn) c.self.view_is in
    ap (λ (q : Parts). change_of q c.push.new.self.entries.items c.push.new.self.emits.items) c.solicit.ensures.parts
    ∙ ap₂ (λ (e : List Entry) (f : List Emit). change_of (with_entry (entry n) p) e f) c.push.ensures.entries c.push.ensures.emits
    ∙ ap (λ (n : ℕ). change_of (with_entry (entry n) p) (entries ++ entry n ∷ []) (emits ++ packet n ∷ [])) drawn
    ∙ told-so settings m address database p entries emits c.requires.may.enter.later (omega (arith, c.requires.may.enter.count)) (sym c.may_be_solicited.ensures ∙ c.if-not-may_be_solicited.false)

pub returns-clause-waits : goal.returns-clause-waits
returns-clause-waits c =
    ap (λ (q : Parts). waiting c.args.step.now.m q.requests) c.solicit.ensures.parts
    ∙ still-waiting c.args.step.now.m c.args.address c.args.eid.now c.nonce_at-nonce.result c.args.self.now.parts.requests
