use Rattle.std.proofs.Common.{None, Some, arith, sym, ◌∙◌}
use Rattle.std.proofs.lemmas.List.{append-nil, get_or_default, get_or-set_same, get_or-set_other}
use Rattle.node_store.proofs.SlotLemmas.{last_vacant, vacant_within, sound_put, sound_push, changes-padded}
use Rattle.node_store.proofs.store.NodeStore.put.Goals as goal

pub invariant_of-self : goal.invariant_of-self
invariant_of-self g c =
    let used_up = c.in_default.ensures.items ∙ append-nil c.pop.new.self.items in
    rw (c.push_node.ensures.items, c.push_node.ensures.capacity, c.pop.ensures.capacity, ← used_up) (sound_push _ _ _ _ _ _ c.args.node c.self.invariant (omega (arith, c.in_default.ensures.cases.0, c.self.inside.free.ok.0, rw (← c.self.view_is) at c.requires)))

pub index_mut-requires : goal.index_mut-requires
index_mut-requires g c =
    let at = vacant_within c.self.inside.slots.items c.in-Some.name (last_vacant _ _ _ _ _ _ _ c.self.invariant c.in-Some.ensures.items) in
    omega (arith, at.0, c.self.inside.slots.ok.0)

pub unreachable-requires : goal.unreachable-requires
unreachable-requires g c =
    let slots = c.self.inside.slots.items in
    let at = vacant_within slots c.in-Some.name (last_vacant _ _ _ _ _ _ _ c.self.invariant c.in-Some.ensures.items) in
    let read = c.index_mut.ensures.value ∙ get_or_default slots c.in-Some.name c.index_mut.result.now None at.0 ∙ at.1 in
    absurd (cc (sym c.in-Some-replace.is ∙ c.replace.ensures.value ∙ read))

pub invariant_of-self-2 : goal.invariant_of-self-2
invariant_of-self-2 g c =
    rw (c.replace.ensures.after, c.pop.ensures.capacity) (sound_put _ _ _ _ _ _ _ c.args.node c.self.invariant c.in-Some.ensures.items)

pub returns-clause-changes : goal.returns-clause-changes
returns-clause-changes g c =
    let slots = c.self.inside.slots.items in
    let at = vacant_within slots c.in-Some.name (last_vacant _ _ _ _ _ _ _ c.self.invariant c.in-Some.ensures.items) in
    rw (← c.self.view_is, c.replace.ensures.after) (changes-padded slots _ _ _ _ _ c.in-Some.name (Some c.args.node) (get_or-set_same slots c.in-Some.name _ None at.0) (λ other differs. get_or-set_other slots c.in-Some.name other _ None differs))
