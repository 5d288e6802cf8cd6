use Rattle.std.proofs.Common.{IfSome, Option, sym, subst}
use Rattle.map_cache.specs.Lists.{IsFew}
use Rattle.map_cache.specs.declared.mapping.Mapping.{Mapping}
use Rattle.map_cache.proofs.FewLemmas.{in_force-few}
use Rattle.map_cache.proofs.indexed.Indexed.in_force_named.Goals as goal

pub returns-clause-few : goal.returns-clause-few
returns-clause-few c =
    subst (λ (o : Option Mapping). IfSome o IsFew) (sym c.in_force_named.ensures.found) (in_force-few c.args.m c.args.eid.now c.self.inside.by_eid.mappings c.self.invariant.few)
