use Rattle.std.proofs.Common.{arith}
use Rattle.named_list.proofs.ItemsLemmas.{length-items_at, item_named-dead}
use Rattle.named_list.proofs.ChangeLemmas.{named_insert, items_insert}
use Rattle.named_list.proofs.list.NamedList.insert.Goals as goal

pub insert-requires-clause-place : goal.insert-requires-clause-place
insert-requires-clause-place g c =
    let len = length-items_at c.self.inside.store c.self.inside.order.names c.self.invariant.each in
    omega (arith, len, rw (← c.self.view_is) at c.requires.place)

pub invariant_of-self : goal.invariant_of-self
invariant_of-self g c =
    let names = c.self.inside.order.names in
    let len = length-items_at c.self.inside.store names c.self.invariant.each in
    rw c.insert.ensures.names (named_insert c.self.inside.store c.put-name.new.self names c.args.index c.put-name.result c.args.item _ _ c.self.invariant (omega (arith, len, rw (← c.self.view_is) at c.requires.place)) c.put-name.ensures.fresh c.put-name.ensures.changes c.put-name.ensures.rooms c.put-name.ensures.slots (omega (arith, c.insert.ensures.places)))

pub returns-clause-items : goal.returns-clause-items
returns-clause-items g c =
    let names = c.self.inside.order.names in
    rw (← c.self.view_is, c.insert.ensures.names) (items_insert c.self.inside.store c.put-name.new.self names c.args.index c.put-name.result c.args.item _ c.self.invariant c.put-name.ensures.fresh c.put-name.ensures.changes)

pub returns-clause-fresh : goal.returns-clause-fresh
returns-clause-fresh g c =
    rw (← c.self.view_is) (item_named-dead c.self.inside.store c.self.inside.order.names c.put-name.result c.self.invariant.each c.put-name.ensures.fresh)
