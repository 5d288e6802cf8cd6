use Rattle.router_model.proofs.FollowLemmas.{table-decides, table-hears, table-notes, table-ticks}
use Rattle.router_model.proofs.laws.tables_go_as_journals.Goals as goal

pub returns-clause-decides : goal.returns-clause-decides
returns-clause-decides c = table-decides

pub returns-clause-notes : goal.returns-clause-notes
returns-clause-notes c = table-notes

pub returns-clause-hears : goal.returns-clause-hears
returns-clause-hears c = table-hears

pub returns-clause-ticks : goal.returns-clause-ticks
returns-clause-ticks c = table-ticks
