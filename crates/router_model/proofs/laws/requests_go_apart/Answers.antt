use Rattle.router_model.proofs.ApartLemmas.{retries-apart}
use Rattle.router_model.proofs.ApartTableLemmas.{solicited-apart}
use Rattle.router_model.proofs.laws.requests_go_apart.Goals as goal

pub returns-clause-retries : goal.returns-clause-retries
returns-clause-retries c = retries-apart

pub returns-clause-solicited : goal.returns-clause-solicited
returns-clause-solicited c = solicited-apart
