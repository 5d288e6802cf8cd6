use Rattle.std.proofs.Common.{arith}
use Rattle.prefix_table.proofs.PutLemmas.{puts_leaf}
use Rattle.prefix_table.proofs.insert.put_leaf.Goals as goal

pub returns : goal.returns
returns g c given is least =
    rw c.take.ensures.after (puts_leaf _ _ c.put.result c.args.eid.now given least c.put.ensures.fresh (rw (c.take.ensures.value, is) at c.put.ensures.changes) (omega (arith, c.put.ensures.rooms)) c.put.ensures.slots)
