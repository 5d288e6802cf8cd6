use Rattle.router_model.proofs.SingleLemmas.{numbers-exist}
use Rattle.router_model.proofs.rounds.rounds_have_numbers.Goals as goal

pub returns : goal.returns
returns c = numbers-exist
