use Rattle.router_model.proofs.IsolationLemmas.{decision-isolated, moment-isolated, rising-isolated}
use Rattle.router_model.proofs.laws.decisions_are_isolated.Goals as goal

pub returns-clause-moment : goal.returns-clause-moment
returns-clause-moment c = moment-isolated

pub returns-clause-decision : goal.returns-clause-decision
returns-clause-decision c = decision-isolated

pub returns-clause-rising : goal.returns-clause-rising
returns-clause-rising c = rising-isolated
