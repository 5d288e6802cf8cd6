use Rattle.std.proofs.Common.{sym, ◌∙◌}
use Rattle.map_cache.proofs.PlaceLemmas.{without-missing}
use Rattle.map_cache.proofs.indexed.Indexed.clear.Goals as goal

pub returns-else-has-clause-mappings : goal.returns-else-has-clause-mappings
returns-else-has-clause-mappings c =
    sym (without-missing c.args.eid.now c.args.self.now.mappings (sym c.has.ensures ∙ c.if-has.false))
