use Rattle.router_model.proofs.ApartNotedLemmas.{notes-stay}
use Rattle.router_model.proofs.ApartSecondLemmas.{seconds-stay}
use Rattle.router_model.proofs.ApartTableLemmas.{tables-ask, tables-learn, tables-solicited}
use Rattle.router_model.proofs.laws.tables_ask_and_learn_apart.Goals as goal

pub returns-clause-ask : goal.returns-clause-ask
returns-clause-ask c = tables-ask

pub returns-clause-learn : goal.returns-clause-learn
returns-clause-learn c = tables-learn

pub returns-clause-solicited : goal.returns-clause-solicited
returns-clause-solicited c = tables-solicited

pub returns-clause-seconds : goal.returns-clause-seconds
returns-clause-seconds c = seconds-stay

pub returns-clause-notes : goal.returns-clause-notes
returns-clause-notes c = notes-stay
