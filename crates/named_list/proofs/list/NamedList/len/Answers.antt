use Rattle.std.proofs.Common.{arith}
use Rattle.named_list.proofs.ItemsLemmas.{length-items_at}
use Rattle.named_list.proofs.list.NamedList.len.Goals as goal

pub returns-clause-len : goal.returns-clause-len
returns-clause-len g c =
    let len = length-items_at c.self.inside.store c.self.inside.order.names c.self.invariant.each in
    rw (← c.self.view_is) (omega (arith, len, c.len.ensures))
