use Rattle.router_model.proofs.ShareLemmas.{first-is-proper, first-rules}
use Rattle.router_model.proofs.rounds.first_entries_decide.Goals as goal

pub returns-clause-proper : goal.returns-clause-proper
returns-clause-proper c = first-is-proper

pub returns-clause-rules : goal.returns-clause-rules
returns-clause-rules c = first-rules
