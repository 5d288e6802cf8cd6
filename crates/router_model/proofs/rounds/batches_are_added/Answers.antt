use Rattle.router_model.specs.Changes.{journal as of_journal}
use Rattle.router_model.specs.Parts.{table}
use Rattle.router_model.proofs.SideLemmas.{journal-adds, worked-adds, writing-adds}
use Rattle.router_model.proofs.rounds.batches_are_added.Goals as goal

pub returns-clause-journal : goal.returns-clause-journal
returns-clause-journal c = journal-adds

pub returns-clause-by_journal : goal.returns-clause-by_journal
returns-clause-by_journal c = λ settings state events. writing-adds of_journal settings state events

pub returns-clause-by_table : goal.returns-clause-by_table
returns-clause-by_table c = λ settings state events. writing-adds table settings state events

pub returns-clause-round_by_journal : goal.returns-clause-round_by_journal
returns-clause-round_by_journal c = worked-adds of_journal

pub returns-clause-round_by_table : goal.returns-clause-round_by_table
returns-clause-round_by_table c = worked-adds table
