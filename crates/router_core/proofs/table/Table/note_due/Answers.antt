use Rattle.std.proofs.Common.{◌≡◌, ◌∙◌, ◌%◌, ◌^◌, IsTrue, sym, ap, subst, arith}
use Rattle.lisp_settings.specs.Nonces.{nonce_of}
use Rattle.router_log.specs.declared.entry.Entry.{Entry}
use Rattle.router_log.specs.declared.entry.Entry.TheVariants.{EchoStarted}
use Rattle.router_model.specs.Parts.{Parts, view_in, with_entry}
use Rattle.router_core.specs.Table.{TableSeen}
use Rattle.router_core.proofs.ChangeLemmas.{both}
use Rattle.router_core.proofs.NotingLemmas.{due-change, quiet-entered}
use Rattle.router_core.proofs.table.Table.note_due.Goals as goal

pub start_echo-requires-clause-place : goal.start_echo-requires-clause-place
start_echo-requires-clause-place c =
    subst (λ (p : Parts). IsTrue ((view_in p c.args.m).may_start c.args.rloc)) (sym c.in_ok-reserve_others.ensures.parts)
    (both c.args.site.now.echo _ (sym c.is_echo_due.ensures ∙ c.if-not-is_echo_due.false)).1

pub returns-clause-parts : goal.returns-clause-parts
returns-clause-parts c =
    let settings = c.args.site.now in
    let p = c.args.self.now.parts in
    let few = c.requires.may.count in
    let n = c.nonce_at.result in
    let entry : Entry = EchoStarted c.args.m c.args.rloc (n % 2 ^ 24) in
    let drawn : n ≡ nonce_of settings.seed settings.nonces p.drawn =
    c.nonce_at.ensures ∙ ap (λ (t : TableSeen). nonce_of settings.seed settings.nonces t.parts.drawn) c.self.view_is in
    quiet-entered p _ entry c.in_ok-entries.entries c.quiet.result (c.start_echo.ensures.parts ∙ ap (with_entry entry) c.in_ok-reserve_others.ensures.parts) c.in_ok-entries.ensures c.quiet.ensures
    ∙ due-change settings c.args.m p c.requires.may.later (omega (arith, few)) c.args.rloc n drawn (sym c.is_echo_due.ensures ∙ c.if-not-is_echo_due.false)
