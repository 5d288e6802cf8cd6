use Rattle.std.proofs.Common.{arith, ◌∙◌}
use Rattle.named_list.proofs.ItemsLemmas.{length-items_at, names_within, slice_get-items_at}
use Rattle.named_list.proofs.ChangeLemmas.{name_live, named_remove, items_remove}
use Rattle.named_list.proofs.list.NamedList.remove.Goals as goal

pub remove-name-requires : goal.remove-name-requires
remove-name-requires g c =
    let len = length-items_at c.self.inside.store c.self.inside.order.names c.self.invariant.each in
    omega (arith, len, rw (← c.self.view_is) at c.requires)

pub drop_node-requires : goal.drop_node-requires
drop_node-requires g c =
    let names = c.self.inside.order.names in
    let within = names_within c.self.inside.store names c.args.index c.self.invariant.each (rw (← c.self.view_is) at c.requires) in
    name_live c.self.inside.store names c.args.index c.remove-name.result c.self.invariant.each within c.remove-name.ensures.name

pub invariant_of-self : goal.invariant_of-self
invariant_of-self g c =
    let names = c.self.inside.order.names in
    let within = names_within c.self.inside.store names c.args.index c.self.invariant.each (rw (← c.self.view_is) at c.requires) in
    rw (c.remove-name.ensures.names) (named_remove c.self.inside.store c.drop_node.new.self names c.args.index c.remove-name.result _ _ c.self.invariant within c.remove-name.ensures.name c.drop_node.ensures.changes c.drop_node.ensures.rooms c.drop_node.ensures.slots c.remove-name.ensures.places)

pub returns-clause-item : goal.returns-clause-item
returns-clause-item g c =
    let names = c.self.inside.order.names in
    let within = names_within c.self.inside.store names c.args.index c.self.invariant.each (rw (← c.self.view_is) at c.requires) in
    rw (← c.self.view_is) (slice_get-items_at c.self.inside.store names c.args.index c.remove-name.result c.self.invariant.each within c.remove-name.ensures.name ∙ c.drop_node.ensures.node)

pub returns-clause-items : goal.returns-clause-items
returns-clause-items g c =
    let names = c.self.inside.order.names in
    let within = names_within c.self.inside.store names c.args.index c.self.invariant.each (rw (← c.self.view_is) at c.requires) in
    rw (← c.self.view_is, c.remove-name.ensures.names) (items_remove c.self.inside.store c.drop_node.new.self names c.args.index c.remove-name.result _ c.self.invariant within c.remove-name.ensures.name c.drop_node.ensures.changes)
