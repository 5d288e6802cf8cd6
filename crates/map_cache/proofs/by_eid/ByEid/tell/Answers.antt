use Rattle.std.proofs.Common.{is_some, sym, ap, subst, ◌∙◌}
use Rattle.node_store.specs.Store.{with_node}
use Rattle.map_cache.specs.Filed.{mappings_at, IsFiled}
use Rattle.map_cache.specs.declared.mapping.Mapping.{Mapping}
use Rattle.map_cache.proofs.FiledLemmas.{filed-at, filed-told, told-filed, told-mappings, told-none}
use Rattle.map_cache.proofs.by_eid.ByEid.tell.Goals as goal

pub edit-requires : goal.edit-requires
edit-requires c =
    let told = filed-told c.self.inside.store c.self.inside.stays.pairs c.self.invariant c.args.eid.now c.in-Some.stay.now (sym c.in-Some.ensures.value) in
    ap is_some (filed-at c.self.inside.store c.self.inside.stays.pairs c.self.invariant told.index _ told.item told.named told.there)

pub invariant_of-self : goal.invariant_of-self
invariant_of-self c =
    subst (λ (x : Mapping). IsFiled (with_node c.self.inside.store c.in-Some.stay.now.name x) c.self.inside.stays.pairs) (sym c.tell.ensures) (told-filed c.self.inside.store c.self.inside.stays.pairs c.self.invariant c.args.eid.now c.in-Some.stay.now (sym c.in-Some.ensures.value) c.args.bits c.args.width c.edit.result.now c.edit.ensures.node)

pub returns-in-Some-clause-mappings : goal.returns-in-Some-clause-mappings
returns-in-Some-clause-mappings c =
    rw (← c.self.view_is) (ap (λ (x : Mapping). mappings_at (with_node c.self.inside.store c.in-Some.stay.now.name x) c.self.inside.stays.pairs) c.tell.ensures ∙ told-mappings c.self.inside.store c.self.inside.stays.pairs c.self.invariant c.args.eid.now c.in-Some.stay.now (sym c.in-Some.ensures.value) c.args.bits c.args.width c.edit.result.now c.edit.ensures.node)

pub returns-in_default-clause-mappings : goal.returns-in_default-clause-mappings
returns-in_default-clause-mappings c =
    rw (← c.self.view_is) (told-none c.self.inside.store c.self.inside.stays.pairs c.self.invariant c.args.eid.now c.args.bits c.args.width (sym c.in_default.ensures.value))
