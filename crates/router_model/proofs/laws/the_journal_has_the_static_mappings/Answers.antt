use Rattle.router_model.proofs.StaticsLemmas.{length-statics}
use Rattle.router_model.proofs.laws.the_journal_has_the_static_mappings.Goals as goal

pub returns : goal.returns
returns c settings = length-statics settings
