use Rattle.std.proofs.Common.{◌∙◌, ap, sym}
use Rattle.request_queue.specs.Queue.{waiting}
use Rattle.router_log.specs.declared.entry.Entry.{Entry}
use Rattle.router_model.specs.Parts.{Parts, admits, with_entry}
use Rattle.router_core.proofs.SecondLemmas.{absorbed-not, absorbed-so, admitted-few, changed-waits}
use Rattle.router_core.proofs.table.Table.enter_change.Goals as goal

pub returns-then-not-admits-clause-parts : goal.returns-then-not-admits-clause-parts
returns-then-not-admits-clause-parts c =
    absorbed-not c.args.self.now.parts c.args.entry.now (sym c.admits.ensures ∙ c.if-not-admits.true)

pub change-requires-clause-few : goal.change-requires-clause-few
change-requires-clause-few c =
    admitted-few c.args.self.now.parts c.args.m c.args.change.now.address c.args.change.now.up
    (ap (admits c.args.self.now.parts) (sym c.requires.entry) ∙ sym c.admits.ensures ∙ c.if-not-admits.false)

pub returns-clause-parts : goal.returns-clause-parts
returns-clause-parts c =
    c.change.ensures.parts
    ∙ ap (λ (e : Entry). with_entry e c.args.self.now.parts) (sym c.requires.entry)
    ∙ absorbed-so c.args.self.now.parts c.args.entry.now (sym c.admits.ensures ∙ c.if-not-admits.false)

pub returns-clause-waits : goal.returns-clause-waits
returns-clause-waits c =
    ap (λ (p : Parts). waiting c.args.m p.requests) c.change.ensures.parts
    ∙ changed-waits c.args.self.now.parts c.args.m c.args.change.now.address c.args.change.now.up
