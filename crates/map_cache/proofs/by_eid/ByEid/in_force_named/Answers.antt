use Rattle.std.proofs.Common.{rules, ◌≡◌, All, is_some, sym, ap, subst, ◌∙◌, arith}
use Rattle.prefix_table.specs.Longest.{IsRefused}
use Rattle.map_cache.specs.Indexed.{stay_lasts}
use Rattle.map_cache.proofs.FiledLemmas.{filed-at, filed-same}
use Rattle.map_cache.proofs.ForceLemmas.{force-none, force-some}
use Rattle.map_cache.proofs.FoundLemmas.{stay-at}
use Rattle.map_cache.proofs.by_eid.ByEid.in_force_named.Goals as goal

pub read-mapping-requires-clause-live : goal.read-mapping-requires-clause-live
read-mapping-requires-clause-live c =
    let found = rw c.self.invariant.stay at c.in-Some.ensures.longest in
    let at = stay-at _ _ (c.in-Some.field-0-0.now, c.in-Some.stay.now) found.there in
    ap is_some (filed-at c.self.inside.store c.self.inside.stays.pairs c.self.invariant at.index _ at.item at.named at.there)

pub returns-in-None-clause-found : goal.returns-in-None-clause-found
returns-in-None-clause-found c =
    let all : All (IsRefused (λ stay b. stay_lasts c.args.m stay ≡ b) c.args.eid.now) c.self.inside.stays.pairs = λ k d within covers. let says = c.in-None.ensures.longest k d within covers in search rules in
    rw (← c.self.view_is) (force-none c.args.m c.args.eid.now _ _ (omega arith) (filed-same c.self.inside.store c.self.inside.stays.pairs c.self.invariant) (subst (All (IsRefused (λ stay b. stay_lasts c.args.m stay ≡ b) c.args.eid.now)) c.self.invariant.stay all))

pub returns-in-Some-clause-found : goal.returns-in-Some-clause-found
returns-in-Some-clause-found c =
    let found = rw c.self.invariant.stay at c.in-Some.ensures.longest in
    let at = stay-at _ _ (c.in-Some.field-0-0.now, c.in-Some.stay.now) found.there in
    let node = filed-at c.self.inside.store c.self.inside.stays.pairs c.self.invariant at.index _ at.item at.named at.there in
    let is = force-some _ c.args.m c.args.eid.now _ _ _ (omega arith) found at c.self.invariant.ascending (filed-same c.self.inside.store c.self.inside.stays.pairs c.self.invariant) (λ stay b says. search rules) in
    rw (← c.self.view_is) (sym c.read-mapping.ensures.node ∙ node ∙ sym is)
