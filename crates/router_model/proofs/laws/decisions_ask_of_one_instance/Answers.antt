use Rattle.router_model.proofs.ApartNoticeLemmas.{notices-of-one}
use Rattle.router_model.proofs.InstanceLemmas.{agrees-decides, none-asks}
use Rattle.router_model.proofs.laws.decisions_ask_of_one_instance.Goals as goal

pub returns-clause-one : goal.returns-clause-one
returns-clause-one c = agrees-decides

pub returns-clause-none : goal.returns-clause-none
returns-clause-none c = none-asks

pub returns-clause-notices : goal.returns-clause-notices
returns-clause-notices c = notices-of-one
