use Rattle.std.proofs.Common.{◌∙◌, ap, rules}
use Rattle.audit.specs.Compared.{finished}
use Rattle.auditing.proofs.HoldingLemmas.{held-all, held-fault, rest-fault}
use Rattle.auditing.proofs.holding.Holding.finish.Goals as goal

pub returns-in_err-read_next-clause-compares : goal.returns-in_err-read_next-clause-compares
returns-in_err-read_next-clause-compares g c = λ packets run base held.
    let fault = held-fault packets run base c.args.self c.read_next.new.reader c.in_err-read_next.field-0.0 (g.D.Desk.told c.args.desk.now) (g.D.Desk.told c.read_next.new.desk) held c.in_err-read_next.ensures.comes in
    search (rules, fault)

pub returns-in_err-read_to_end-clause-compares : goal.returns-in_err-read_to_end-clause-compares
returns-in_err-read_to_end-clause-compares g c = λ packets run base held.
    let fault = rest-fault packets run base c.args.self c.read_next.new.reader c.in_ok-read_next.field-0 c.in_err-read_to_end.field-0.0 (g.D.Desk.told c.args.desk.now) (g.D.Desk.told c.read_next.new.desk) held c.in_ok-read_next.ensures.comes c.in_err-read_to_end.ensures.ends in
    search (rules, fault)

pub returns-clause-compares : goal.returns-clause-compares
returns-clause-compares g c = λ packets run base held.
    held-all packets run base c.args.self c.read_next.new.reader c.in_ok-read_next.field-0 c.finish.result (g.D.Desk.told c.args.desk.now) (g.D.Desk.told c.read_next.new.desk)
    c.packets_compare_one_by_one.ensures.all held c.in_ok-read_next.ensures.comes c.in_ok-read_to_end.ensures.ends (c.finish.ensures ∙ ap (finished c.args.self.auditor) c.is_some-more.ensures)
