use Rattle.std.proofs.Common.{is_some, ap}
use Rattle.map_cache.proofs.PlaceLemmas.{none-left}
use Rattle.map_cache.proofs.indexed.Indexed.put.Goals as goal

pub enter-requires-clause-new : goal.enter-requires-clause-new
enter-requires-clause-new c = rw c.clear.ensures.mappings (ap is_some (none-left c.args.mapping.eid _))
