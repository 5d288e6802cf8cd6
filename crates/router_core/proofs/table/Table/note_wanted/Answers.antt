use Rattle.std.proofs.Common.{◌∙◌, IsTrue, sym, ap, subst, arith}
use Rattle.router_log.specs.declared.entry.Entry.TheVariants.{EchoWanted}
use Rattle.router_model.specs.Parts.{Parts, view_in, with_entry}
use Rattle.router_core.proofs.NotingLemmas.{quiet-entered, wanted-change}
use Rattle.router_core.proofs.table.Table.note_wanted.Goals as goal

pub want_echo-requires-clause-place : goal.want_echo-requires-clause-place
want_echo-requires-clause-place c =
    subst (λ (p : Parts). IsTrue ((view_in p c.args.m).may_want c.args.rloc c.args.nonce)) (sym c.in_ok-reserve_others.ensures.parts)
    (sym c.may_want.ensures ∙ c.if-not-may_want.false)

pub returns-clause-parts : goal.returns-clause-parts
returns-clause-parts c settings =
    let p = c.args.self.now.parts in
    let few = c.requires.may.count in
    quiet-entered p _ (EchoWanted c.args.m c.args.rloc c.args.nonce) c.in_ok-entries.entries c.quiet.result (c.want_echo.ensures.parts ∙ ap (with_entry (EchoWanted c.args.m c.args.rloc c.args.nonce)) c.in_ok-reserve_others.ensures.parts) c.in_ok-entries.ensures c.quiet.ensures
    ∙ wanted-change settings c.args.m p c.requires.may.later (omega (arith, few)) c.args.rloc c.args.nonce (sym c.may_want.ensures ∙ c.if-not-may_want.false) c.requires.short
