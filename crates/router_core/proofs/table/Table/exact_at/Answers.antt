use Rattle.std.proofs.Common.{◌∙◌, ℕ, max, List, ap, option_map}
use Rattle.map_cache.specs.Cache as cache
use Rattle.map_cache.specs.Cache.{lasting}
use Rattle.map_cache.specs.declared.mapping.Mapping.{Mapping}
use Rattle.router_model.specs.Cache.{held_of}
use Rattle.router_core.specs.Table.{TableSeen}
use Rattle.router_core.proofs.HeldLemmas.{exact-seen}
use Rattle.router_core.proofs.table.Table.exact_at.Goals as goal

pub returns-in-Some : goal.returns-in-Some
returns-in-Some c =
    let among : List Mapping → _ = λ ms. option_map held_of (cache.exact ms c.args.eid.now) in
    ap (option_map held_of) c.exact_at.ensures.found
    ∙ ap (λ (n : ℕ). among (lasting n c.self.inside.cache.mappings)) c.moment_at.ensures
    ∙ ap (λ (t : TableSeen). among (lasting (max c.args.m c.args.self.now.parts.now) t.parts.mappings)) c.self.view_is
    ∙ exact-seen c.args.self.now.parts c.args.m c.args.eid.now
