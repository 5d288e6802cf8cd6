use Rattle.std.proofs.Common.{List, ap, ap₂, arith, subst, sym, ℕ, ◌+◌, ◌∙◌, ◌≤◌}
use Rattle.locator_state.specs.Observed.{Observed, longest}
use Rattle.map_cache.specs.Cache.{lasting}
use Rattle.map_cache.specs.declared.mapping.Mapping.{Mapping}
use Rattle.request_queue.specs.declared.request.Request.{Request}
use Rattle.router_log.specs.declared.entry.Entry.TheVariants.{EchoHeard}
use Rattle.router_model.specs.Parts.{with_entry}
use Rattle.router_core.specs.Table.{TableSeen}
use Rattle.router_core.specs.Bounded.{AreShort, AreVersioned, KeepLimits}
use Rattle.router_core.proofs.BoundLemmas.{heard-short, lasting-versioned}
use Rattle.router_core.proofs.EntryLemmas.{heard-parts, parts_with}
use Rattle.router_core.proofs.KeptTurnsLemmas.{behind}
use Rattle.router_core.proofs.LimitLemmas.{lasting-keeps}
use Rattle.router_core.proofs.LengthLemmas.{heard-few}
use Rattle.router_core.proofs.table.Table.hear_echo.Goals as goal

pub returns : goal.returns
returns c =
    let m = c.args.m in
    let inside = c.self.inside in
    record {
      parts =
          ap₂ (λ (now : ℕ) (l : List Mapping). parts_with inside.limits inside.own.items inside.steps (inside.count + 1) inside.drawn now l c.purge-2.new.self.requests c.echo_heard.new.self.observed) c.purge.ensures.now c.purge.ensures.mappings
          ∙ ap₂ (λ (l : List Request) (p : Observed). parts_with inside.limits inside.own.items inside.steps (inside.count + 1) inside.drawn m (lasting m inside.cache.mappings) l p) c.purge-2.ensures.requests c.echo_heard.ensures.observed
          ∙ heard-parts inside.limits inside.own.items inside.steps inside.count inside.drawn inside.cache.now inside.cache.mappings inside.queue.requests inside.locators.observed m c.args.rloc.now
          ∙ ap (λ (t : TableSeen). with_entry (EchoHeard m c.args.rloc.now) t.parts) c.self.view_is;
    }

pub invariant_of-self : goal.invariant_of-self
invariant_of-self c =
    let m = c.args.m in
    let inside = c.self.inside in
    let few = c.self.invariant.0 in
    let later : inside.cache.now ≤ m = subst (λ (t : TableSeen). t.parts.now ≤ m) (sym c.self.view_is) c.requires.may.later in
    let limited = c.self.invariant.5 in
    let are = c.self.invariant.4 in (
      omega (arith, few),
      behind inside.own.items inside.turns inside.cache.now m inside.locators.observed.probes inside.cache.mappings c.self.invariant.1 later _ _ _ _ c.turns_behind-self-inside.ensures c.purge.ensures.now (ap (λ (o : Observed). o.probes) c.echo_heard.ensures.observed) c.purge.ensures.mappings,
      subst AreVersioned (sym c.purge.ensures.mappings) (lasting-versioned m inside.cache.mappings c.self.invariant.2),
      subst AreShort (sym c.echo_heard.ensures.observed) (heard-short m c.args.rloc.now inside.locators.observed c.self.invariant.3),
      record {
        mappings = omega (arith, are.mappings, c.purge.ensures.mapping_places);
        requests = omega (arith, are.requests, c.purge-2.ensures.places);
        probes = omega (arith, are.probes, c.echo_heard.ensures.places);
        longest = subst (λ (o : Observed). longest o ≤ 9600) (sym c.echo_heard.ensures.observed) (heard-few m c.args.rloc.now inside.locators.observed are.longest);
        own = are.own;
      },
      record { mappings = c.purge.ensures.limits ∙ limited.mappings; requests = c.purge-2.ensures.limits ∙ limited.requests; keeps = subst (KeepLimits inside.limits) (sym c.purge.ensures.mappings) (lasting-keeps m inside.limits inside.cache.mappings limited.keeps) },
    )
