use Rattle.std.proofs.Common.{◌∙◌, ℕ, max, IfSome, List, Option, ap, option_map, subst, sym}
use Rattle.map_cache.specs.Cache as cache
use Rattle.map_cache.specs.Cache.{lasting}
use Rattle.map_cache.specs.declared.mapping.Mapping.{Mapping}
use Rattle.router_model.specs.Cache.{held_of}
use Rattle.router_core.specs.Table.{TableSeen}
use Rattle.router_core.specs.Bounded.{IsVersioned}
use Rattle.router_core.proofs.HeldLemmas.{force-seen}
use Rattle.router_core.proofs.BoundLemmas.{force-versioned}
use Rattle.router_core.proofs.table.Table.in_force_named.Goals as goal

pub returns-clause-found : goal.returns-clause-found
returns-clause-found c =
    let among : List Mapping → _ = λ ms. option_map held_of (cache.in_force ms c.args.eid.now) in
    ap (option_map held_of) c.in_force_named.ensures.found
    ∙ ap (λ (n : ℕ). among (lasting n c.self.inside.cache.mappings)) c.moment_at.ensures
    ∙ ap (λ (t : TableSeen). among (lasting (max c.args.m c.args.self.now.parts.now) t.parts.mappings)) c.self.view_is
    ∙ force-seen c.args.self.now.parts c.args.m c.args.eid.now

pub returns-clause-version : goal.returns-clause-version
returns-clause-version c =
    subst (λ (o : Option Mapping). IfSome o IsVersioned) (sym c.in_force_named.ensures.found)
    (force-versioned c.moment_at.result c.args.eid.now c.self.inside.cache.mappings c.self.invariant.2)
