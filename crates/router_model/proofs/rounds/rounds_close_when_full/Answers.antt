use Rattle.router_model.proofs.CutLemmas.{last-round-closes, round-closes, round-stays-open}
use Rattle.router_model.proofs.rounds.rounds_close_when_full.Goals as goal

pub returns-clause-closes : goal.returns-clause-closes
returns-clause-closes c = round-closes

pub returns-clause-stays : goal.returns-clause-stays
returns-clause-stays c = round-stays-open

pub returns-clause-last : goal.returns-clause-last
returns-clause-last c = last-round-closes
