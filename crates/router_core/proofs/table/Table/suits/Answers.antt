use Rattle.std.proofs.Common.{◌∙◌, sym, ap}
use Rattle.router_log.specs.declared.entry.Entry.{Entry}
use Rattle.router_model.specs.Journal.{moment_of}
use Rattle.router_model.specs.Parts.{view_in}
use Rattle.router_model.specs.Proper.{suits}
use Rattle.router_core.proofs.table.Table.suits.Goals as goal

pub returns-in-Asked : goal.returns-in-Asked
returns-in-Asked c =
    let p = c.args.self.now.parts in
    c.may_open.ensures ∙ ap (λ (e : Entry). suits p.limits (view_in p (moment_of e)) e) (sym c.in-Asked.is)
