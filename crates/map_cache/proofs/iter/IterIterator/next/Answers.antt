use Rattle.std.proofs.Common.{All, subst}
use Rattle.std.proofs.lemmas.List.Elements.{All-head, All-tail}
use Rattle.map_cache.specs.Filed.{IsNamed}
use Rattle.map_cache.proofs.iter.IterIterator.next.Goals as goal

pub read-requires-clause-live : goal.read-requires-clause-live
read-requires-clause-live c =
    let each = subst (All (IsNamed c.self.inside.store.now)) c.in_ok-stay.ensures.steps c.self.invariant in
    All-head (IsNamed c.self.inside.store.now) _ _ each

pub invariant_of-self-2 : goal.invariant_of-self-2
invariant_of-self-2 c =
    let each = subst (All (IsNamed c.self.inside.store.now)) c.in_ok-stay.ensures.steps c.self.invariant in
    All-tail (IsNamed c.self.inside.store.now) _ _ each
