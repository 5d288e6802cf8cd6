use Rattle.std.proofs.Common.{All}
use Rattle.map_messages.proofs.ItemsLemmas.{Before}
use Rattle.map_messages.proofs.items.read_each.Given as goal

abbrev pub invariant-loop : goal.invariant-loop
invariant-loop g l =
    Before g.T.Item.IsAt g.T.Item.rules g.T.Item.size l.count l.base l.octets l.counter l.at l.items × All g.T.Item.InRange l.items
