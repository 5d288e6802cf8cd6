use Rattle.std.proofs.Common.{◌≡◌, List, ap, ap₂, arith, length, subst, sym, ℕ, ◌+◌, ◌∙◌, ◌≤◌}
use Rattle.std.specs.Vec.{with_items}
use Rattle.std.proofs.lemmas.List.{length-map, with_items_is}
use Rattle.lisp_settings.specs.declared.settings.OwnLocator.{OwnLocator}
use Rattle.locator_state.specs.Observed.{Observed, longest, recent}
use Rattle.map_cache.specs.Cache.{lasting}
use Rattle.map_cache.specs.declared.mapping.Mapping.{Mapping}
use Rattle.request_queue.specs.Queue.{waiting}
use Rattle.request_queue.specs.declared.request.Request.{Request}
use Rattle.router_log.specs.declared.entry.Entry.TheVariants.{Changed}
use Rattle.router_model.specs.Parts.{with_entry}
use Rattle.router_model.specs.Standing.{changing}
use Rattle.router_core.specs.Table.{TableSeen}
use Rattle.router_core.specs.Bounded.{AreShort, AreVersioned, KeepLimits}
use Rattle.router_core.proofs.BoundLemmas.{lasting-versioned, recent-short}
use Rattle.router_core.proofs.EntryLemmas.{changed-parts, parts_with}
use Rattle.router_core.proofs.KeptTurnsLemmas.{forgotten-behind}
use Rattle.router_core.proofs.LimitLemmas.{lasting-keeps}
use Rattle.router_core.proofs.LengthLemmas.{recent-few}
use Rattle.router_core.proofs.SecondLemmas.{changed_one}
use Rattle.router_core.proofs.table.Table.change.Goals as goal

pub returns-clause-parts : goal.returns-clause-parts
returns-clause-parts c =
    let m = c.args.m in
    let address = c.args.address in
    let up = c.args.up in
    let inside = c.self.inside in
    let made : c.set_up.new.locators ≡ changing address up inside.own.items = c.set_up.ensures ∙ ap (changing address up) c.as_mut_slice.ensures.value in
    let size : length c.set_up.new.locators ≡ inside.own.len = ap (λ (l : List OwnLocator). length l) made ∙ length-map inside.own.items (changed_one address up) ∙ sym inside.own.ok.0 in
    let own : (with_items inside.own c.set_up.new.locators).items ≡ changing address up inside.own.items = with_items_is inside.own c.set_up.new.locators size ∙ made in
    ap₂ (λ (now : ℕ) (l : List Mapping). parts_with inside.limits (with_items inside.own c.set_up.new.locators).items (inside.steps + 1) (inside.count + 1) inside.drawn now l c.purge-2.new.self.requests c.purge-3.new.self.observed) c.purge.ensures.now c.purge.ensures.mappings
    ∙ ap₂ (λ (l : List Request) (p : Observed). parts_with inside.limits (with_items inside.own c.set_up.new.locators).items (inside.steps + 1) (inside.count + 1) inside.drawn m (lasting m inside.cache.mappings) l p) c.purge-2.ensures.requests c.purge-3.ensures.observed
    ∙ ap (λ (l : List OwnLocator). parts_with inside.limits l (inside.steps + 1) (inside.count + 1) inside.drawn m (lasting m inside.cache.mappings) (waiting m inside.queue.requests) (recent m inside.locators.observed)) own
    ∙ changed-parts inside.limits inside.own.items inside.steps inside.count inside.drawn inside.cache.now inside.cache.mappings inside.queue.requests inside.locators.observed m address up
    ∙ ap (λ (t : TableSeen). with_entry (Changed m address up) t.parts) c.self.view_is

pub invariant_of-self : goal.invariant_of-self
invariant_of-self c =
    let m = c.args.m in
    let address = c.args.address in
    let up = c.args.up in
    let inside = c.self.inside in
    let few = c.self.invariant.0 in
    let later : inside.cache.now ≤ m = subst (λ (t : TableSeen). t.parts.now ≤ m) (sym c.self.view_is) c.requires.may.later in
    let made : c.set_up.new.locators ≡ changing address up inside.own.items = c.set_up.ensures ∙ ap (changing address up) c.as_mut_slice.ensures.value in
    let size : length c.set_up.new.locators ≡ inside.own.len = ap (λ (l : List OwnLocator). length l) made ∙ length-map inside.own.items (changed_one address up) ∙ sym inside.own.ok.0 in
    let own : length (with_items inside.own c.set_up.new.locators).items ≡ length inside.own.items =
    ap (λ (l : List OwnLocator). length l) (with_items_is inside.own c.set_up.new.locators size ∙ made) ∙ length-map inside.own.items (changed_one address up) in
    let limited = c.self.invariant.5 in
    let are = c.self.invariant.4 in (
      omega (arith, few),
      forgotten-behind inside.own.items _ inside.turns inside.cache.now m inside.locators.observed.probes inside.cache.mappings c.self.invariant.1 later _ _ _ _ c.no_turns-self-inside.ensures c.purge.ensures.now (ap (λ (o : Observed). o.probes) c.purge-3.ensures.observed),
      subst AreVersioned (sym c.purge.ensures.mappings) (lasting-versioned m inside.cache.mappings c.self.invariant.2),
      subst AreShort (sym c.purge-3.ensures.observed) (recent-short m inside.locators.observed c.self.invariant.3),
      record {
        mappings = omega (arith, are.mappings, c.purge.ensures.mapping_places);
        requests = omega (arith, are.requests, c.purge-2.ensures.places);
        probes = omega (arith, are.probes, c.purge-3.ensures.places);
        longest = subst (λ (o : Observed). longest o ≤ 9600) (sym c.purge-3.ensures.observed) (recent-few m inside.locators.observed are.longest);
        own = omega (arith, are.own, own);
      },
      record { mappings = c.purge.ensures.limits ∙ limited.mappings; requests = c.purge-2.ensures.limits ∙ limited.requests; keeps = subst (KeepLimits inside.limits) (sym c.purge.ensures.mappings) (lasting-keeps m inside.limits inside.cache.mappings limited.keeps) },
    )
