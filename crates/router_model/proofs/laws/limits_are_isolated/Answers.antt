use Rattle.router_model.proofs.ApartLemmas.{retries-isolated}
use Rattle.router_model.proofs.TenantFrameLemmas.{hears-isolated, notes-isolated}
use Rattle.router_model.proofs.TenantLemmas.{requests-isolated}
use Rattle.router_model.proofs.TenantTableLemmas.{learning-isolated}
use Rattle.router_model.proofs.laws.limits_are_isolated.Goals as goal

pub returns-clause-requests : goal.returns-clause-requests
returns-clause-requests c = requests-isolated

pub returns-clause-learning : goal.returns-clause-learning
returns-clause-learning c = learning-isolated

pub returns-clause-retries : goal.returns-clause-retries
returns-clause-retries c = retries-isolated

pub returns-clause-notes : goal.returns-clause-notes
returns-clause-notes c = notes-isolated

pub returns-clause-hears : goal.returns-clause-hears
returns-clause-hears c = hears-isolated
