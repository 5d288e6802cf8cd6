use Rattle.std.proofs.Common.{◌∙◌, sym, arith}
use Rattle.router_log.specs.declared.entry.Entry.TheVariants.{Bits}
use Rattle.router_core.proofs.NotingLemmas.{quiet-entered, told-change}
use Rattle.router_core.proofs.table.Table.note_bits.Goals as goal

pub returns-clause-parts : goal.returns-clause-parts
returns-clause-parts c settings =
    let p = c.args.self.now.parts in
    let few = c.requires.may.count in
    quiet-entered p _ (Bits c.args.m c.args.eid.now c.args.bits c.args.width) c.in_ok-entries.entries c.quiet.result c.tell.ensures.parts c.in_ok-entries.ensures c.quiet.ensures
    ∙ told-change settings c.args.m p c.requires.may.later (omega (arith, few)) c.args.eid.now c.args.rloc.now c.args.bits c.args.width (sym c.is_news.ensures ∙ c.if-not-is_news.false) c.requires.width
