use Rattle.std.proofs.Common.{rules}
use Rattle.auditing.specs.Auditing.{run_in}
use Rattle.auditing.proofs.BothLemmas.{both-compared, both-fault}
use Rattle.auditing.proofs.auditing.audit_both.Goals as goal

pub returns-in_err-finish-clause-audited : goal.returns-in_err-finish-clause-audited
returns-in_err-finish-clause-audited g c =
    let over = rw (c.in_default.is, c.new-holding.ensures.sent) at c.in_ok-fault.ensures.over in
    let fault = both-fault g.M.Machine.Does (g.M.Machine.state c.args.machine.now) (run_in c.args.input) (run_in c.args.sent) c.audit_input.new.holding c.in_err-finish.field-0.0 (g.D.Desk.told c.args.desk.now) (g.D.Desk.told c.audit_input.new.desk)
    over c.in_err-finish.ensures.compares in
    search (rules, fault)

pub returns-clause-audited : goal.returns-clause-audited
returns-clause-audited g c =
    let over = rw (c.in_default.is, c.new-holding.ensures.sent) at c.in_ok-fault.ensures.over in
    both-compared g.M.Machine.Does (g.M.Machine.state c.args.machine.now) (run_in c.args.input) (run_in c.args.sent) c.audit_input.new.holding c.in_ok-finish.field-0 (g.D.Desk.told c.args.desk.now) (g.D.Desk.told c.audit_input.new.desk)
    over c.in_ok-finish.ensures.compares
