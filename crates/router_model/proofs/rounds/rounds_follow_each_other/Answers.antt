use Rattle.router_model.proofs.SingleLemmas.{lawful-follow, rounds-follow}
use Rattle.router_model.proofs.rounds.rounds_follow_each_other.Goals as goal

pub returns-clause-rounds : goal.returns-clause-rounds
returns-clause-rounds c = rounds-follow

pub returns-clause-lawful : goal.returns-clause-lawful
returns-clause-lawful c = lawful-follow
