use Rattle.prefix_table.proofs.NodesLemmas.{live_kept, way_at}
use Rattle.prefix_table.proofs.nodes.Nodes.way.Goals as goal

pub read-requires-clause-live : goal.read-requires-clause-live
read-requires-clause-live g c =
    live_kept c.self.inside.ways c.self.inside.contents.items c.args.name (rw (← c.self.view_is) at c.requires.live)

pub returns-clause-node : goal.returns-clause-node
returns-clause-node g c =
    rw (← c.self.view_is) (way_at c.self.inside.ways c.self.inside.contents.items c.args.name c.read.result.now c.self.invariant c.read.ensures.node)
