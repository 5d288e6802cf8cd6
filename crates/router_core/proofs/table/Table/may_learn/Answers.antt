use Rattle.std.proofs.Common.{◌∙◌, max, nat_lt, sym, ap}
use Rattle.lisp_settings.specs.Instances.{mappings_in}
use Rattle.map_cache.specs.Cache.{lasting, learned_in}
use Rattle.router_core.specs.Table.{TableSeen}
use Rattle.router_core.proofs.LimitLemmas.{learned-view}
use Rattle.router_core.proofs.table.Table.may_learn.Goals as goal

pub returns : goal.returns
returns c =
    let iid = c.args.iid in
    let p = c.args.self.now.parts in
    let now = max c.args.m p.now in
    let inside = c.self.inside in
    c.has_place_in.ensures
    ∙ ap (λ t. nat_lt (learned_in iid (lasting t inside.cache.mappings)) (mappings_in inside.cache.limits iid)) c.moment_at.ensures
    ∙ ap (λ l. nat_lt (learned_in iid (lasting now inside.cache.mappings)) (mappings_in l iid)) c.self.invariant.5.mappings
    ∙ ap (λ (t : TableSeen). nat_lt (learned_in iid (lasting now t.parts.mappings)) (mappings_in t.parts.limits iid)) c.self.view_is
    ∙ ap (λ n. nat_lt n (mappings_in p.limits iid)) (sym (learned-view p c.args.m iid))
