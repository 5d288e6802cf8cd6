use Rattle.std.proofs.Common.{arith}
use Rattle.prefix_table.proofs.NodesLemmas.{within_contents, content_at, key_at, read_there}
use Rattle.prefix_table.proofs.nodes.Nodes.content.Goals as goal

pub index-requires : goal.index-requires
index-requires g c =
    omega (arith, within_contents c.self.inside.ways c.self.inside.contents.items c.args.name c.self.invariant (rw (← c.self.view_is) at c.requires), c.self.inside.contents.ok.0)

pub returns-clause-node : goal.returns-clause-node
returns-clause-node g c =
    let ways = c.self.inside.ways in
    let contents = c.self.inside.contents.items in
    let there = read_there ways contents c.args.name c.index.result.now c.self.invariant (rw (← c.self.view_is) at c.requires) c.index.ensures in
    rw (← c.self.view_is) (content_at ways contents c.args.name c.index.result.now there)

pub returns-clause-key : goal.returns-clause-key
returns-clause-key g c =
    let ways = c.self.inside.ways in
    let contents = c.self.inside.contents.items in
    let live = rw (← c.self.view_is) at c.requires in
    key_at ways contents c.args.name c.index.result.now c.self.invariant live (read_there ways contents c.args.name c.index.result.now c.self.invariant live c.index.ensures)
