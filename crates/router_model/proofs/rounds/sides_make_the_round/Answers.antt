use Rattle.router_model.proofs.SideLemmas.{data-are-left, sides-meet, writing-advances}
use Rattle.router_model.proofs.rounds.sides_make_the_round.Goals as goal

pub returns-clause-meet : goal.returns-clause-meet
returns-clause-meet c = sides-meet

pub returns-clause-advances : goal.returns-clause-advances
returns-clause-advances c = writing-advances

pub returns-clause-left : goal.returns-clause-left
returns-clause-left c = data-are-left
