use Rattle.map_cache.proofs.CountLemmas.{number-there}
use Rattle.map_cache.proofs.counts.Counts.get.Goals as goal

pub returns-clause-learned : goal.returns-clause-learned
returns-clause-learned c =
    rw (← c.self.view_is) (number-there c.self.inside.limits c.self.inside.learned.items c.in_ok-place.place c.index.result.now c.args.iid c.index.ensures c.in_ok-place.ensures.found c.in_ok-place.ensures.within)
