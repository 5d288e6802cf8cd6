use Rattle.std.proofs.Common.{arith}
use Rattle.map_cache.specs.Cache.{lasting, learned_in}
use Rattle.map_cache.proofs.EndedInLemmas.{below-too, lasting-fewer}
use Rattle.map_cache.proofs.indexed.Indexed.has_place_in.Goals as goal

pub returns-then-count : goal.returns-then-count
returns-then-count c =
    let items = c.self.inside.by_eid.mappings in
    let all = c.in-Some.ensures.learned (λ iid. learned_in iid items) c.self.invariant.indexed.counted in
    let fewer = lasting-fewer c.args.m c.args.iid items in
    rw (← c.self.view_is, ← c.in-Some.ensures.most) (below-too (learned_in c.args.iid (lasting c.args.m items)) c.in-Some.count.learned c.in-Some.count.most (omega (arith, all, fewer)) c.if-count.true)
