use Rattle.std.proofs.Common.{◌-◌, length, vec_capacity}
use Rattle.prefix_table.proofs.NodesLemmas.{AddingContents}
use Rattle.prefix_table.proofs.content.add_contents.Given as goal

abbrev pub invariant-loop-eid : goal.invariant-loop-eid
invariant-loop-eid g l = AddingContents l.fn.contents.items l.contents.items (vec_capacity l.contents) l.all

abbrev pub decreases-loop-eid : goal.decreases-loop-eid
decreases-loop-eid g l = l.all - length l.contents.items
