use Rattle.router_model.specs.Changes.{journal as of_journal}
use Rattle.router_model.specs.Parts.{table}
use Rattle.router_model.proofs.GrowLemmas.{with-more}
use Rattle.router_model.proofs.SideLemmas.{events-follow, last-closes, told-follows, writing-follows}
use Rattle.router_model.proofs.rounds.rounds_are_worked_step_by_step.Goals as goal

pub returns-clause-journal : goal.returns-clause-journal
returns-clause-journal c = writing-follows of_journal

pub returns-clause-table : goal.returns-clause-table
returns-clause-table c = writing-follows table

pub returns-clause-journal_entries : goal.returns-clause-journal_entries
returns-clause-journal_entries c = with-more of_journal

pub returns-clause-table_entries : goal.returns-clause-table_entries
returns-clause-table_entries c = with-more table

pub returns-clause-told : goal.returns-clause-told
returns-clause-told c = told-follows

pub returns-clause-events : goal.returns-clause-events
returns-clause-events c = events-follow

pub returns-clause-last : goal.returns-clause-last
returns-clause-last c = last-closes
