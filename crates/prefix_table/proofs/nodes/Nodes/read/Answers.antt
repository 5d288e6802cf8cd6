use Rattle.std.proofs.Common.{refl}
use Rattle.node_store.specs.Store.{node_at}
use Rattle.prefix_table.proofs.KeyLemmas.{given_of}
use Rattle.prefix_table.proofs.NodesLemmas.{read_is}
use Rattle.prefix_table.proofs.nodes.Nodes.read.Goals as goal

pub returns-clause-node : goal.returns-clause-node
returns-clause-node g c =
    let top = given_of (node_at c.args.self.now c.args.name) c.requires.live in
    read_is (node_at c.args.self.now c.args.name) top.value c.way-way.result c.content.result.now _ top.is (c.way-way.ensures.node top.value top.is) (c.content.ensures.node top.value top.is) (rw (c.linked.ensures, c.linked-2.ensures) refl)
