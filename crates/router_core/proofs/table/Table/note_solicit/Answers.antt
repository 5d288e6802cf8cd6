use Rattle.std.proofs.Common.{◌≡◌, ◌∙◌, [], ◌∷◌, IsTrue, is_some, sym, ap, subst, arith}
use Rattle.lisp_settings.specs.Nonces.{nonce_of}
use Rattle.router_log.specs.declared.emit.Emit.TheVariants as emit
use Rattle.router_log.specs.declared.entry.Entry.{Entry}
use Rattle.router_log.specs.declared.entry.Entry.TheVariants.{Solicited}
use Rattle.router_model.specs.Parts.{Parts, view_in, with_entry}
use Rattle.router_model.specs.Site.{ours}
use Rattle.router_core.specs.Table.{TableSeen}
use Rattle.router_core.proofs.ChangeLemmas.{both}
use Rattle.router_core.proofs.NotingLemmas.{one-entered, solicited-change}
use Rattle.router_core.proofs.table.Table.note_solicit.Goals as goal

pub solicit-requires-clause-place : goal.solicit-requires-clause-place
solicit-requires-clause-place c =
    subst (λ (p : Parts). IsTrue ((view_in p c.args.m).may_solicit c.args.rloc c.args.eid)) (sym c.in_ok-reserve_others.ensures.parts)
    (both (is_some (ours c.args.site.now.locators c.args.rloc)) _ (sym c.may_solicit.ensures ∙ c.if-not-may_solicit.false)).1

pub returns-clause-parts : goal.returns-clause-parts
returns-clause-parts c =
    let settings = c.args.site.now in
    let p = c.args.self.now.parts in
    let few = c.requires.may.count in
    let n = c.nonce_at-nonce.result in
    let entry : Entry = Solicited c.args.m c.args.rloc c.args.eid n in
    let drawn : n ≡ nonce_of settings.seed settings.nonces p.drawn =
    c.nonce_at-nonce.ensures ∙ ap (λ (t : TableSeen). nonce_of settings.seed settings.nonces t.parts.drawn) c.self.view_is in
    one-entered p _ entry c.in_ok-entries.entries c.in_ok-emits.emits (emit.Solicit c.args.rloc c.args.eid n ∷ []) (c.solicit.ensures.parts ∙ ap (with_entry entry) c.in_ok-reserve_others.ensures.parts) c.in_ok-entries.ensures c.in_ok-emits.ensures
    ∙ solicited-change settings c.args.m p c.requires.may.later (omega (arith, few)) c.args.rloc c.args.eid n drawn (sym c.may_solicit.ensures ∙ c.if-not-may_solicit.false)
