use Rattle.std.proofs.Common.{◌≡◌, ◌∙◌, ℕ, List, [], ◌∷◌, ap, ap₂, arith}
use Rattle.lisp_settings.specs.Nonces.{nonce_of}
use Rattle.router_log.specs.declared.emit.Emit.{Emit}
use Rattle.router_log.specs.declared.emit.Emit.TheVariants.{Request}
use Rattle.router_log.specs.declared.entry.Entry.{Entry}
use Rattle.router_log.specs.declared.entry.Entry.TheVariants.{Asked}
use Rattle.router_model.specs.Parts.{Parts, with_entry}
use Rattle.router_core.specs.Table.{TableSeen, change_of}
use Rattle.router_core.proofs.ChangeLemmas.{asked-change}
use Rattle.router_core.proofs.table.Table.make_request.Goals as goal

pub returns-clause-parts : goal.returns-clause-parts
returns-clause-parts c =
    let settings = c.args.site.now in
    let p = c.args.self.now.parts in
    let few = c.requires.may.count in
    let entry : ℕ → Entry = λ n. Asked c.args.m c.args.eid c.args.source c.args.invoked n in
    let emit : ℕ → Emit = λ n. Request c.args.eid c.args.source c.args.invoked n in
    let drawn : c.nonce_at-nonce.result ≡ nonce_of settings.seed settings.nonces p.drawn =
    c.nonce_at-nonce.ensures ∙ ap (λ (t : TableSeen). nonce_of settings.seed settings.nonces t.parts.drawn) c.self.view_is in
    ap (λ (q : Parts). change_of q c.in_ok-entries.entries c.in_ok-emits.emits) (c.ask.ensures.parts ∙ ap (with_entry (entry c.nonce_at-nonce.result)) c.in_ok-reserve_requests.ensures.parts)
    ∙ ap₂ (λ (e : List Entry) (f : List Emit). change_of (with_entry (entry c.nonce_at-nonce.result) p) e f) c.in_ok-entries.ensures c.in_ok-emits.ensures
    ∙ ap (λ (n : ℕ). change_of (with_entry (entry n) p) (entry n ∷ []) (emit n ∷ [])) drawn
    ∙ asked-change settings c.args.m c.args.eid c.args.source c.args.invoked p [] [] c.requires.may.later (omega (arith, few)) c.requires.place
