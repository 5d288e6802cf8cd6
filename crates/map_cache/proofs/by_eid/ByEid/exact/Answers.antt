use Rattle.std.proofs.Common.{true, false, is_some, sym, ap, ◌∙◌, arith}
use Rattle.map_cache.proofs.ExactLemmas.{told-lasts, lasting-none, lasting-some, lasting-ended}
use Rattle.map_cache.proofs.FiledLemmas.{filed-at, filed-none, filed-told}
use Rattle.map_cache.proofs.by_eid.ByEid.exact.Goals as goal

pub returns-in_err-stay-clause-found : goal.returns-in_err-stay-clause-found
returns-in_err-stay-clause-found c =
    let none = filed-none c.self.inside.store c.self.inside.stays.pairs c.self.invariant c.args.eid.now (sym c.in_err-stay.ensures.value) in
    rw (← c.self.view_is, c.from_residual.ensures) (sym (lasting-none c.args.m c.args.eid.now _ none))

pub returns-then-not-stay_lasts-clause-found : goal.returns-then-not-stay_lasts-clause-found
returns-then-not-stay_lasts-clause-found c =
    let told = filed-told c.self.inside.store c.self.inside.stays.pairs c.self.invariant c.args.eid.now c.in_ok-stay.stay.now (sym c.in_ok-stay.ensures.value) in
    rw (← c.self.view_is) (sym (lasting-ended c.args.m c.args.eid.now _ told.item c.self.invariant.ascending told.found (told-lasts c.args.m _ _ _ _ told false (omega arith) c.if-not-stay_lasts.ensures)))

pub read-requires-clause-live : goal.read-requires-clause-live
read-requires-clause-live c =
    let told = filed-told c.self.inside.store c.self.inside.stays.pairs c.self.invariant c.args.eid.now c.in_ok-stay.stay.now (sym c.in_ok-stay.ensures.value) in
    ap is_some (filed-at c.self.inside.store c.self.inside.stays.pairs c.self.invariant told.index _ told.item told.named told.there)

pub returns-clause-found : goal.returns-clause-found
returns-clause-found c =
    let told = filed-told c.self.inside.store c.self.inside.stays.pairs c.self.invariant c.args.eid.now c.in_ok-stay.stay.now (sym c.in_ok-stay.ensures.value) in
    let at = filed-at c.self.inside.store c.self.inside.stays.pairs c.self.invariant told.index _ told.item told.named told.there in
    let found = lasting-some c.args.m c.args.eid.now _ told.item c.self.invariant.ascending told.found (told-lasts c.args.m _ _ _ _ told true (omega arith) c.if-not-stay_lasts.ensures) in
    rw (← c.self.view_is) (sym c.read.ensures.node ∙ at ∙ sym found)
