use Rattle.router_model.proofs.SingleLemmas.{singles-are-forced, singles-are-plain}
use Rattle.router_model.proofs.rounds.rounds_of_one_frame_are_plain.Goals as goal

pub returns-clause-plain : goal.returns-clause-plain
returns-clause-plain c = singles-are-plain

pub returns-clause-forced : goal.returns-clause-forced
returns-clause-forced c = singles-are-forced
