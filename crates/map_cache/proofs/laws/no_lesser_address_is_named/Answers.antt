use Rattle.map_cache.proofs.NamedLemmas.{least-none, least-one, least-least}
use Rattle.map_cache.proofs.laws.no_lesser_address_is_named.Goals as goal

pub returns-clause-one : goal.returns-clause-one
returns-clause-one c named = least-one named

pub returns-clause-least : goal.returns-clause-least
returns-clause-least c named = least-least named

pub returns-clause-none : goal.returns-clause-none
returns-clause-none c named = least-none named
