use Rattle.router_model.proofs.SideLemmas.{lines-show}
use Rattle.router_model.proofs.rounds.lines_show_the_numbers.Goals as goal

pub returns : goal.returns
returns c = lines-show
