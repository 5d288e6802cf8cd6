use Rattle.std.proofs.Common.{arith, ap, ◌∙◌, refl}
use Rattle.named_list.specs.Lends.{with_item}
use Rattle.named_list.proofs.ItemsLemmas.{length-items_at, names_within, slice_get-items_at}
use Rattle.named_list.proofs.ChangeLemmas.{name_live, named_of-with_node}
use Rattle.named_list.proofs.list.NamedList.edit.Goals as goal

pub get-requires : goal.get-requires
get-requires g c =
    let len = length-items_at c.self.inside.store c.self.inside.order.names c.self.invariant.each in
    omega (arith, len, rw (← c.self.view_is) at c.requires)

pub edit-requires : goal.edit-requires
edit-requires g c =
    let names = c.self.inside.order.names in
    let within = names_within c.self.inside.store names c.args.index c.self.invariant.each (rw (← c.self.view_is) at c.requires) in
    name_live c.self.inside.store names c.args.index c.get.result c.self.invariant.each within c.get.ensures

pub returns : goal.returns
returns g c =
    let names = c.self.inside.order.names in
    let within = names_within c.self.inside.store names c.args.index c.self.invariant.each (rw (← c.self.view_is) at c.requires) in (
      (refl, λ w. named_of-with_node c.self.inside.store names c.args.index c.get.result w _ c.self.invariant within c.get.ensures ∙ ap (λ list. with_item list c.args.index w) c.self.view_is),
      record { writes_back = tt; item = rw (← c.self.view_is) (slice_get-items_at c.self.inside.store names c.args.index c.get.result c.self.invariant.each within c.get.ensures ∙ c.edit.ensures.node) },
    )
