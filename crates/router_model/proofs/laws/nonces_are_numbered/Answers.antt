use Rattle.router_model.proofs.ApartLemmas.{numbered-decides, numbered-requests, part-is-one}
use Rattle.router_model.proofs.laws.nonces_are_numbered.Goals as goal

pub returns-clause-decides : goal.returns-clause-decides
returns-clause-decides c = numbered-decides

pub returns-clause-requests : goal.returns-clause-requests
returns-clause-requests c = numbered-requests

pub returns-clause-part : goal.returns-clause-part
returns-clause-part c = part-is-one
