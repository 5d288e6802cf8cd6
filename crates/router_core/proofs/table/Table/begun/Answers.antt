use Rattle.std.proofs.Common.{rules}
use Rattle.router_core.proofs.table.Table.begun.Goals as goal

pub begin-requires-clause-begins : goal.begin-requires-clause-begins
begin-requires-clause-begins c = search (rules, c.in_ok-table.ensures c.args.settings.now, c.in_ok-limits.ensures.limits)

pub returns-in_err-begin : goal.returns-in_err-begin
returns-in_err-begin c = search (rules, c.from_residual-in_err-begin.ensures)
