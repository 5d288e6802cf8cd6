use Rattle.router_model.proofs.ForceLemmas.{live-exact}
use Rattle.router_model.proofs.laws.the_live_mapping_was_learned_last.Goals as goal

pub returns : goal.returns
returns c = live-exact
