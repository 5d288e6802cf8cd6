use Rattle.std.proofs.Common.{◌++◌, refl}
use Rattle.forwarders.proofs.BatchLemmas.{journal-behind, journal-length}
use Rattle.forwarders.proofs.StandLemmas.{journal-first}
use Rattle.forwarders.proofs.laws.batches_make_the_journal.Goals as goal

pub returns-clause-first : goal.returns-clause-first
returns-clause-first c = journal-first

pub returns-clause-more : goal.returns-clause-more
returns-clause-more c batches more = journal-behind batches (batches ++ more) (more, refl)

pub returns-clause-count : goal.returns-clause-count
returns-clause-count c = journal-length
