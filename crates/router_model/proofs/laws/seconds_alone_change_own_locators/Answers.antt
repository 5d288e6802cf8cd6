use Rattle.router_model.proofs.StillLemmas.{hears-still, notes-still}
use Rattle.router_model.proofs.laws.seconds_alone_change_own_locators.Goals as goal

pub returns-clause-hears : goal.returns-clause-hears
returns-clause-hears c = hears-still

pub returns-clause-notes : goal.returns-clause-notes
returns-clause-notes c = notes-still
