use Rattle.map_cache.proofs.NamedLemmas.{least-eid}
use Rattle.map_cache.proofs.laws.no_lesser_eid_names_it.Goals as goal

pub returns : goal.returns
returns c after mappings ascending = least-eid after mappings ascending
