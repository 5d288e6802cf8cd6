use Rattle.std.proofs.Common.{arith}
use Rattle.prefix_table.proofs.NodesLemmas.{length-slots_with, live-whole}
use Rattle.prefix_table.proofs.nodes.Nodes.rooms.Goals as goal

pub returns-clause-slots : goal.returns-clause-slots
returns-clause-slots g c =
    let ways = c.self.inside.ways in
    let contents = c.self.inside.contents.items in
    rw (← c.self.view_is) (omega (arith, length-slots_with ways.slots contents, live-whole ways contents c.self.invariant, c.rooms.ensures.slots))
