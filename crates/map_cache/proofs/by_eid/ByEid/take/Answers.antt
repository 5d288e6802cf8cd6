use Rattle.std.proofs.Common.{is_some, sym, ap, subst, ◌∙◌, arith}
use Rattle.map_cache.specs.Filed.{IsFiled}
use Rattle.map_cache.proofs.PlaceOfLemmas.{without-absent}
use Rattle.map_cache.proofs.FiledLemmas.{filed-absent, filed-at, filed-none, filed-told, missed-same, taken-filed, taken-length, taken-mappings}
use Rattle.map_cache.proofs.by_eid.ByEid.take.Goals as goal

pub invariant_of-self : goal.invariant_of-self
invariant_of-self c =
    subst (IsFiled c.self.inside.store) (sym (missed-same c.self.inside.store c.self.inside.stays.pairs c.remove.new.self.pairs c.self.invariant c.args.eid.now (sym c.in_err-stay.ensures.was) c.remove.ensures.pairs)) c.self.invariant

pub returns-in_err-stay-clause-taken : goal.returns-in_err-stay-clause-taken
returns-in_err-stay-clause-taken c =
    rw (← c.self.view_is, c.from_residual.ensures) (sym (filed-none c.self.inside.store c.self.inside.stays.pairs c.self.invariant c.args.eid.now (sym c.in_err-stay.ensures.was)))

pub returns-in_err-stay-clause-mappings : goal.returns-in_err-stay-clause-mappings
returns-in_err-stay-clause-mappings c =
    let gone = ap is_some (filed-none c.self.inside.store c.self.inside.stays.pairs c.self.invariant c.args.eid.now (sym c.in_err-stay.ensures.was)) in
    rw (← c.self.view_is, missed-same c.self.inside.store c.self.inside.stays.pairs c.remove.new.self.pairs c.self.invariant c.args.eid.now (sym c.in_err-stay.ensures.was) c.remove.ensures.pairs) (sym (without-absent c.args.eid.now _ _ (filed-absent c.self.inside.store c.self.inside.stays.pairs c.self.invariant c.args.eid.now gone)))

pub returns-in_err-stay-clause-total : goal.returns-in_err-stay-clause-total
returns-in_err-stay-clause-total c =
    let same = missed-same c.self.inside.store c.self.inside.stays.pairs c.remove.new.self.pairs c.self.invariant c.args.eid.now (sym c.in_err-stay.ensures.was) c.remove.ensures.pairs in
    rw (← c.self.view_is, same) (omega (arith, c.in_err-stay.ensures.spare))

pub returns-in_err-stay-clause-room : goal.returns-in_err-stay-clause-room
returns-in_err-stay-clause-room c =
    let same = missed-same c.self.inside.store c.self.inside.stays.pairs c.remove.new.self.pairs c.self.invariant c.args.eid.now (sym c.in_err-stay.ensures.was) c.remove.ensures.pairs in
    rw (← c.self.view_is, same) (omega (arith, c.in_err-stay.ensures.spare))

pub drop_node-requires : goal.drop_node-requires
drop_node-requires c =
    let told = filed-told c.self.inside.store c.self.inside.stays.pairs c.self.invariant c.args.eid.now c.in_ok-stay.stay (sym c.in_ok-stay.ensures.was) in
    ap is_some (filed-at c.self.inside.store c.self.inside.stays.pairs c.self.invariant told.index _ told.item told.named told.there)

pub invariant_of-self-2 : goal.invariant_of-self-2
invariant_of-self-2 c =
    taken-filed c.self.inside.store c.drop_node.new.self c.self.inside.stays.pairs c.remove.new.self.pairs c.self.invariant c.args.eid.now c.in_ok-stay.stay (sym c.in_ok-stay.ensures.was) c.drop_node.ensures.changes c.remove.ensures.pairs c.drop_node.ensures.rooms c.drop_node.ensures.slots

pub returns-clause-taken : goal.returns-clause-taken
returns-clause-taken c =
    let told = filed-told c.self.inside.store c.self.inside.stays.pairs c.self.invariant c.args.eid.now c.in_ok-stay.stay (sym c.in_ok-stay.ensures.was) in
    let at = filed-at c.self.inside.store c.self.inside.stays.pairs c.self.invariant told.index _ told.item told.named told.there in
    rw (← c.self.view_is) (sym c.drop_node.ensures.node ∙ at ∙ sym told.found)

pub returns-clause-mappings : goal.returns-clause-mappings
returns-clause-mappings c =
    rw (← c.self.view_is) (taken-mappings c.self.inside.store c.drop_node.new.self c.self.inside.stays.pairs c.remove.new.self.pairs c.self.invariant c.args.eid.now c.in_ok-stay.stay (sym c.in_ok-stay.ensures.was) c.drop_node.ensures.changes c.remove.ensures.pairs)

pub returns-clause-total : goal.returns-clause-total
returns-clause-total c =
    let less = taken-length c.self.inside.store c.drop_node.new.self c.self.inside.stays.pairs c.remove.new.self.pairs c.self.invariant c.args.eid.now c.in_ok-stay.stay (sym c.in_ok-stay.ensures.was) c.drop_node.ensures.changes c.remove.ensures.pairs in
    rw (← c.self.view_is) (omega (arith, less, c.in_ok-stay.ensures.spare, c.drop_node.ensures.rooms))

pub returns-clause-room : goal.returns-clause-room
returns-clause-room c =
    let less = taken-length c.self.inside.store c.drop_node.new.self c.self.inside.stays.pairs c.remove.new.self.pairs c.self.invariant c.args.eid.now c.in_ok-stay.stay (sym c.in_ok-stay.ensures.was) c.drop_node.ensures.changes c.remove.ensures.pairs in
    rw (← c.self.view_is) (omega (arith, less, c.in_ok-stay.ensures.spare, c.drop_node.ensures.rooms))
