use Rattle.std.proofs.Common.{rules}
use Rattle.map_cache.proofs.FirstNameLemmas.{all-above, none-upto}
use Rattle.map_cache.proofs.names.place_behind.Goals as goal

pub returns-clause-upto : goal.returns-clause-upto
returns-clause-upto c =
    none-upto c.args.after.now c.args.set.now.keys c.place.result c.len.ensures.ascends c.place.ensures.within (search rules)

pub returns-clause-above : goal.returns-clause-above
returns-clause-above c =
    all-above c.args.after.now c.args.set.now.keys c.place.result c.len.ensures.ascends c.place.ensures.within (search rules)
