use Rattle.std.proofs.Common.{◌≡◌, fold}
use Rattle.std.specs.Option.{option_copied}
use Rattle.map_cache.specs.Cache.{lasting}
use Rattle.map_cache.specs.Named.{least_named, lesser, named_above}
use Rattle.map_cache.proofs.indexed.Indexed.passed.Given as goal

-- the least so far and those to come have the least of all
abbrev pub invariant-loop-mapping : goal.invariant-loop-mapping
invariant-loop-mapping l =
    fold lesser l.best (named_above (option_copied l.after) (lasting l.m l.mapping-iterator))
    ≡ least_named (named_above (option_copied l.after) (lasting l.m l.self.mappings))
