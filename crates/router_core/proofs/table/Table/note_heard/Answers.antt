use Rattle.std.proofs.Common.{◌∙◌, sym, arith}
use Rattle.router_log.specs.declared.entry.Entry.TheVariants.{EchoHeard}
use Rattle.router_core.proofs.NotingLemmas.{quiet-entered, heard-change}
use Rattle.router_core.proofs.table.Table.note_heard.Goals as goal

pub returns-clause-parts : goal.returns-clause-parts
returns-clause-parts c settings =
    let p = c.args.self.now.parts in
    let few = c.requires.may.count in
    quiet-entered p _ (EchoHeard c.args.m c.args.rloc.now) c.in_ok-entries.entries c.quiet.result c.hear_echo.ensures.parts c.in_ok-entries.ensures c.quiet.ensures
    ∙ heard-change settings c.args.m p c.requires.may.later (omega (arith, few)) c.args.rloc.now c.args.nonce (sym c.is_echo.ensures ∙ c.if-not-is_echo.false)
