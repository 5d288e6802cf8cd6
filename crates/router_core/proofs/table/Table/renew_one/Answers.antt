use Rattle.std.proofs.Common.{◌≡◌, ◌∙◌, ℕ, true, None, List, [], ◌∷◌, ◌++◌, sym, ap, ap₂, arith}
use Rattle.lisp_settings.specs.Nonces.{nonce_of}
use Rattle.router_log.specs.declared.emit.Emit.{Emit}
use Rattle.router_log.specs.declared.emit.Emit.TheVariants.{Request}
use Rattle.router_log.specs.declared.entry.Entry.{Entry}
use Rattle.router_log.specs.declared.entry.Entry.TheVariants.{Asked}
use Rattle.router_model.specs.Parts.{Parts, with_entry}
use Rattle.router_core.specs.Renewing.{range_of}
use Rattle.router_core.specs.Table.{TableSeen, change_of}
use Rattle.router_core.proofs.RenewingLemmas.{renewable-place, renewed-so}
use Rattle.router_core.proofs.table.Table.renew_one.Goals as goal

pub ask-requires-clause-place : goal.ask-requires-clause-place
ask-requires-clause-place c =
    renewable-place c.args.step.now.site.now c.args.step.now.m c.args.self.now.parts _ c.in-Some.eid c.requires.may.enter.later (sym c.renewable.ensures ∙ c.in-Some.is)

pub returns-clause-change : goal.returns-clause-change
returns-clause-change c =
    let settings = c.args.step.now.site.now in
    let m = c.args.step.now.m in
    let p = c.args.self.now.parts in
    let eid = c.in-Some.eid in
    let entries = c.args.step.now.entries.items in
    let emits = c.args.step.now.emits.items in
    let entry : ℕ → Entry = λ n. Asked m eid None true n in
    let emit : ℕ → Emit = λ n. Request eid None true n in
    let n = c.nonce_at-nonce.result in
    let drawn : n ≡ nonce_of settings.seed settings.nonces p.drawn =
    c.nonce_at-nonce.ensures ∙ ap (λ (t : TableSeen). nonce_of settings.seed settings.nonces t.parts.drawn) c.self.view_is in
    ap (λ (q : Parts). change_of q c.push.new.self.entries.items c.push.new.self.emits.items) c.ask.ensures.parts
    ∙ ap₂ (λ (e : List Entry) (f : List Emit). change_of (with_entry (entry n) p) e f) c.push.ensures.entries c.push.ensures.emits
    ∙ ap (λ (n : ℕ). change_of (with_entry (entry n) p) (entries ++ entry n ∷ []) (emits ++ emit n ∷ [])) drawn
    ∙ renewed-so settings m p (range_of c.args.eid.now) eid entries emits c.requires.may.enter.later (omega (arith, c.requires.may.enter.count)) (sym c.renewable.ensures ∙ c.in-Some.is)
