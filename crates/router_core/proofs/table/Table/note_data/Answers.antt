use Rattle.std.proofs.Common.{◌∙◌, sym, arith}
use Rattle.router_log.specs.declared.entry.Entry.TheVariants.{DataFrom}
use Rattle.router_core.proofs.NotingLemmas.{quiet-entered, data-change}
use Rattle.router_core.proofs.table.Table.note_data.Goals as goal

pub returns-clause-parts : goal.returns-clause-parts
returns-clause-parts c settings =
    let p = c.args.self.now.parts in
    let few = c.requires.may.count in
    quiet-entered p _ (DataFrom c.args.m c.args.rloc.now) c.in_ok-entries.entries c.quiet.result c.take_data.ensures.parts c.in_ok-entries.ensures c.quiet.ensures
    ∙ data-change settings c.args.m p c.requires.may.later (omega (arith, few)) c.args.rloc.now (sym c.is_data_due.ensures ∙ c.if-not-is_data_due.false)
