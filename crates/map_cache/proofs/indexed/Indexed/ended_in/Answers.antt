use Rattle.std.proofs.Common.{◌+◌, ap, ◌∙◌, arith}
use Rattle.map_cache.specs.Cache.{lasting, learned_in}
use Rattle.map_cache.proofs.EndedInLemmas.{ended-in}
use Rattle.map_cache.proofs.RoomLemmas.{endings-few}
use Rattle.map_cache.proofs.indexed.Indexed.ended_in.Goals as goal

pub ended_in-requires : goal.ended_in-requires
ended_in-requires c =
    let few = endings-few _ _ _ c.self.invariant.indexed c.len.ensures.ascends in
    let most = rw (← c.self.view_is) at c.requires in
    omega (arith, few, most)

pub returns : goal.returns
returns c =
    let items = c.self.inside.by_eid.mappings in
    rw (← c.self.view_is) (ap (λ n. n + learned_in c.args.iid (lasting c.args.m items)) c.ended_in.ensures ∙ ended-in c.args.m c.args.iid items c.self.inside.endings.keys c.self.invariant.indexed.ends c.len.ensures.ascends c.len-2.ensures.ascending)
