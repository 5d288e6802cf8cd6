use Rattle.router_model.proofs.ShareLemmas.{all-batches, batches-rule, batches-stand, table-rounds, table-writes, tables-share}
use Rattle.router_model.proofs.rounds.tables_share_a_round.Goals as goal

pub returns-clause-writes : goal.returns-clause-writes
returns-clause-writes c = table-writes

pub returns-clause-stands : goal.returns-clause-stands
returns-clause-stands c = batches-stand

pub returns-clause-decides : goal.returns-clause-decides
returns-clause-decides c = batches-rule

pub returns-clause-rounds : goal.returns-clause-rounds
returns-clause-rounds c = table-rounds

pub returns-clause-shares : goal.returns-clause-shares
returns-clause-shares c = tables-share

pub returns-clause-all : goal.returns-clause-all
returns-clause-all c = all-batches
