use Rattle.router_model.proofs.RunLemmas.{came-fits, came-in-order, capture-replays}
use Rattle.router_model.proofs.laws.captures_replay_plainly.Goals as goal

pub returns-clause-order : goal.returns-clause-order
returns-clause-order c = came-in-order

pub returns-clause-room : goal.returns-clause-room
returns-clause-room c = came-fits

pub returns-clause-replays : goal.returns-clause-replays
returns-clause-replays c = capture-replays
