use Rattle.router_model.proofs.ApartLemmas.{tables-alike}
use Rattle.router_model.proofs.IsolationLemmas.{table-isolated}
use Rattle.router_model.proofs.laws.tables_are_isolated.Goals as goal

pub returns-clause-one : goal.returns-clause-one
returns-clause-one c = table-isolated

pub returns-clause-two : goal.returns-clause-two
returns-clause-two c = tables-alike
