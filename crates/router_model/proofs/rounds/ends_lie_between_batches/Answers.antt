use Rattle.router_model.specs.Changes.{journal as of_journal}
use Rattle.router_model.specs.Parts.{table}
use Rattle.router_model.proofs.SideLemmas.{opening-within, batches-are-ends, ends-are-batches, ends-within, filled-are-batches, filled-behind, first-of-more}
use Rattle.router_model.proofs.rounds.ends_lie_between_batches.Goals as goal

pub returns-clause-first : goal.returns-clause-first
returns-clause-first c = first-of-more

pub returns-clause-ends : goal.returns-clause-ends
returns-clause-ends c = ends-are-batches

pub returns-clause-within : goal.returns-clause-within
returns-clause-within c = ends-within

pub returns-clause-batches : goal.returns-clause-batches
returns-clause-batches c = batches-are-ends

pub returns-clause-filled : goal.returns-clause-filled
returns-clause-filled c = filled-are-batches

pub returns-clause-behind : goal.returns-clause-behind
returns-clause-behind c = filled-behind

pub returns-clause-opening_of_journal : goal.returns-clause-opening_of_journal
returns-clause-opening_of_journal c = opening-within of_journal

pub returns-clause-opening_of_table : goal.returns-clause-opening_of_table
returns-clause-opening_of_table c = opening-within table
