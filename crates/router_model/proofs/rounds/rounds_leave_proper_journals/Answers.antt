use Rattle.router_model.proofs.ShareLemmas.{round-in-order, round-stays}
use Rattle.router_model.proofs.rounds.rounds_leave_proper_journals.Goals as goal

pub returns-clause-order : goal.returns-clause-order
returns-clause-order c = round-in-order

pub returns-clause-stays : goal.returns-clause-stays
returns-clause-stays c = round-stays
