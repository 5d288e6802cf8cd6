use Rattle.std.proofs.Common.{◌≡◌, ◌+◌, ◌&&◌, true, length, sym, ap, ◌∙◌}
use Rattle.std.proofs.lemmas.Bool.{and_parts}
use Rattle.node_store.specs.Store.{live}
use Rattle.mapping_records.specs.Eids.{same_eid}
use Rattle.map_cache.specs.Cache.{lasts}
use Rattle.map_cache.proofs.LiveLemmas.{live-lasting}
use Rattle.map_cache.proofs.by_eid.ByEid.exact_at.Goals as goal

pub returns-then-is_live-clause-found : goal.returns-then-is_live-clause-found
returns-then-is_live-clause-found c =
    let store = c.self.inside.store in
    let all : length store.slots ≡ live store + store.rooms = c.rooms.ensures.slots ∙ ap (λ n. live store + n) c.rooms.ensures.rooms in
    let is : (same_eid c.read-mapping.result.now.eid c.args.eid.now && lasts c.args.m c.read-mapping.result.now) ≡ true = sym c.is_live.ensures ∙ c.if-is_live.true in
    let parts = and_parts _ _ is in
    rw (← c.self.view_is) (sym (live-lasting c.args.m c.args.eid.now store c.self.inside.stays.pairs c.self.invariant all c.args.name c.read-mapping.result.now c.read-mapping.ensures.node parts.0 parts.1))
