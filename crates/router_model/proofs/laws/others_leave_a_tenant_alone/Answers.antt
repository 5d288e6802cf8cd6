use Rattle.router_model.proofs.ApartOtherLemmas.{others-learn, others-solicit, solicits-stay}
use Rattle.router_model.proofs.ApartTableLemmas.{others-note}
use Rattle.router_model.proofs.laws.others_leave_a_tenant_alone.Goals as goal

pub returns-clause-note : goal.returns-clause-note
returns-clause-note c = others-note

pub returns-clause-learn : goal.returns-clause-learn
returns-clause-learn c = others-learn

pub returns-clause-solicit : goal.returns-clause-solicit
returns-clause-solicit c = others-solicit

pub returns-clause-smr : goal.returns-clause-smr
returns-clause-smr c = solicits-stay
