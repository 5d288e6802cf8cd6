use Rattle.prefix_table.proofs.StackedLemmas.{nodes_under}
use Rattle.prefix_table.proofs.iter.+next_of.Given as goal

abbrev pub decreases-next_of : goal.decreases-next_of
decreases-next_of g l = nodes_under l.store.now l.stack.now
