use Rattle.std.proofs.Common.{IsTrue, List, ap, ap₂, arith, subst, sym, ℕ, ◌+◌, ◌∙◌, ◌≤◌}
use Rattle.map_cache.specs.Cache.{lasting}
use Rattle.map_cache.specs.declared.mapping.Mapping.{Mapping}
use Rattle.request_queue.specs.Queue.{may_send_again, sent_again, waiting}
use Rattle.request_queue.specs.declared.request.Request.{Request}
use Rattle.router_log.specs.declared.entry.Entry.TheVariants.{Retried}
use Rattle.locator_state.specs.Observed.{Observed, longest}
use Rattle.router_model.specs.Parts.{with_entry}
use Rattle.router_core.specs.Table.{TableSeen}
use Rattle.router_core.specs.Bounded.{AreShort, AreVersioned, KeepLimits}
use Rattle.router_core.proofs.BoundLemmas.{lasting-versioned, recent-short}
use Rattle.router_core.proofs.EntryLemmas.{parts_with, retried-parts}
use Rattle.router_core.proofs.KeptTurnsLemmas.{behind}
use Rattle.router_core.proofs.LimitLemmas.{lasting-keeps}
use Rattle.router_core.proofs.LengthLemmas.{recent-few}
use Rattle.router_core.proofs.table.Table.retry.Goals as goal

pub retry-requires : goal.retry-requires
retry-requires c =
    subst (λ (l : List Request). IsTrue (may_send_again c.args.nonce l)) (sym c.purge-2.ensures.requests)
    (subst (λ (t : TableSeen). IsTrue (may_send_again c.args.nonce (waiting c.args.m t.parts.requests))) (sym c.self.view_is) c.requires.again)

pub returns-clause-parts : goal.returns-clause-parts
returns-clause-parts c =
    let m = c.args.m in
    let inside = c.self.inside in
    ap₂ (λ (now : ℕ) (l : List Mapping). parts_with inside.limits inside.own.items inside.steps (inside.count + 1) inside.drawn now l c.retry.new.self.requests c.purge-3.new.self.observed) c.purge.ensures.now c.purge.ensures.mappings
    ∙ ap₂ (λ (l : List Request) (p : Observed). parts_with inside.limits inside.own.items inside.steps (inside.count + 1) inside.drawn m (lasting m inside.cache.mappings) l p) (c.retry.ensures.requests ∙ ap (sent_again c.args.nonce) c.purge-2.ensures.requests) c.purge-3.ensures.observed
    ∙ retried-parts inside.limits inside.own.items inside.steps inside.count inside.drawn inside.cache.now inside.cache.mappings inside.queue.requests inside.locators.observed m c.args.nonce
    ∙ ap (λ (t : TableSeen). with_entry (Retried m c.args.nonce) t.parts) c.self.view_is

pub invariant_of-self : goal.invariant_of-self
invariant_of-self c =
    let m = c.args.m in
    let inside = c.self.inside in
    let few = c.self.invariant.0 in
    let later : inside.cache.now ≤ m = subst (λ (t : TableSeen). t.parts.now ≤ m) (sym c.self.view_is) c.requires.may.later in
    let limited = c.self.invariant.5 in
    let are = c.self.invariant.4 in (
      omega (arith, few),
      behind inside.own.items inside.turns inside.cache.now m inside.locators.observed.probes inside.cache.mappings c.self.invariant.1 later _ _ _ _ c.turns_behind-self-inside.ensures c.purge.ensures.now (ap (λ (o : Observed). o.probes) c.purge-3.ensures.observed) c.purge.ensures.mappings,
      subst AreVersioned (sym c.purge.ensures.mappings) (lasting-versioned m inside.cache.mappings c.self.invariant.2),
      subst AreShort (sym c.purge-3.ensures.observed) (recent-short m inside.locators.observed c.self.invariant.3),
      record {
        mappings = omega (arith, are.mappings, c.purge.ensures.mapping_places);
        requests = omega (arith, are.requests, c.retry.ensures.places, c.purge-2.ensures.places);
        probes = omega (arith, are.probes, c.purge-3.ensures.places);
        longest = subst (λ (o : Observed). longest o ≤ 9600) (sym c.purge-3.ensures.observed) (recent-few m inside.locators.observed are.longest);
        own = are.own;
      },
      record { mappings = c.purge.ensures.limits ∙ limited.mappings; requests = c.retry.ensures.limits ∙ c.purge-2.ensures.limits ∙ limited.requests; keeps = subst (KeepLimits inside.limits) (sym c.purge.ensures.mappings) (lasting-keeps m inside.limits inside.cache.mappings limited.keeps) },
    )
