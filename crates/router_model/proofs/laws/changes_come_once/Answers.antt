use Rattle.router_model.proofs.OnceLemmas.{changes-come-once}
use Rattle.router_model.proofs.StandingLemmas.{lawful-may}
use Rattle.router_model.proofs.laws.changes_come_once.Goals as goal

pub returns-clause-once : goal.returns-clause-once
returns-clause-once c = changes-come-once

pub returns-clause-lawful : goal.returns-clause-lawful
returns-clause-lawful c = lawful-may
