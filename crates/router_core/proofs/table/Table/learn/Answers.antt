use Rattle.std.proofs.Common.{List, ◌≤◌, ap, ap₂, arith, subst, sym, ℕ, ◌+◌, ◌∙◌, ◌≡◌}
use Rattle.map_cache.specs.Cache.{learned}
use Rattle.map_cache.specs.declared.mapping.Mapping.{Mapping}
use Rattle.request_queue.specs.declared.request.Request.{Request}
use Rattle.router_log.specs.declared.entry.Entry.TheVariants.{Learned}
use Rattle.locator_state.specs.Observed.{Observed, longest}
use Rattle.router_model.specs.Parts.{with_entry}
use Rattle.router_core.specs.Table.{TableSeen}
use Rattle.router_core.specs.Turning.{suits_all}
use Rattle.router_core.specs.Bounded.{AreShort, AreVersioned, KeepLimits}
use Rattle.router_core.proofs.BoundLemmas.{learned-versioned, recent-short}
use Rattle.router_core.proofs.EntryLemmas.{learned-parts, left_by, parts_with}
use Rattle.router_core.proofs.KeptTurnsLemmas.{learned-behind}
use Rattle.router_core.proofs.LengthLemmas.{recent-few}
use Rattle.router_core.proofs.table.Table.learn.Goals as goal

pub returns-clause-parts : goal.returns-clause-parts
returns-clause-parts c =
    let m = c.args.m in
    let mapping = c.args.mapping in
    let inside = c.self.inside in
    let ms : c.learn.new.self.mappings ≡ learned m mapping c.args.fixed inside.cache.mappings =
    left_by c.learn.result c.learn.ensures.ok (sym c.is_err.ensures.value ∙ c.if-is_err.false) in
    ap₂ (λ (now : ℕ) (l : List Mapping). parts_with inside.limits inside.own.items inside.steps (inside.count + 1) inside.drawn now l c.purge.new.self.requests c.purge-2.new.self.observed) c.learn.ensures.now ms
    ∙ ap₂ (λ (r : List Request) (p : Observed). parts_with inside.limits inside.own.items inside.steps (inside.count + 1) inside.drawn m (learned m mapping c.args.fixed inside.cache.mappings) r p) c.purge.ensures.requests c.purge-2.ensures.observed
    ∙ learned-parts inside.limits inside.own.items inside.steps inside.count inside.drawn inside.cache.now inside.cache.mappings inside.queue.requests inside.locators.observed m mapping c.args.fixed
    ∙ ap (λ (t : TableSeen). with_entry (Learned m mapping c.args.fixed) t.parts) c.self.view_is

pub invariant_of-self : goal.invariant_of-self
invariant_of-self c =
    let m = c.args.m in
    let inside = c.self.inside in
    let few = c.self.invariant.0 in
    let later : inside.cache.now ≤ m = subst (λ (t : TableSeen). t.parts.now ≤ m) (sym c.self.view_is) c.requires.may.later in
    let limited = c.self.invariant.5 in
    let are = c.self.invariant.4 in
    let ms : c.learn.new.self.mappings ≡ learned m c.args.mapping c.args.fixed inside.cache.mappings =
    left_by c.learn.result c.learn.ensures.ok (sym c.is_err.ensures.value ∙ c.if-is_err.false) in
    let keeps = subst (λ (t : TableSeen). KeepLimits t.parts.limits (learned m c.args.mapping c.args.fixed t.parts.mappings)) (sym c.self.view_is) c.requires.keeps in (
      omega (arith, few),
      learned-behind inside.own.items inside.turns inside.cache.now m inside.locators.observed.probes inside.cache.mappings c.self.invariant.1 later c.turns_with-self-inside.result _ _ _ c.args.mapping c.args.fixed _ c.turns_behind.ensures c.turns_with-self-inside.ensures.less
          (ap (suits_all inside.own.items c.turns_with-self-inside.result c.purge-2.new.self.observed.probes) (sym c.as_slice.ensures) ∙ c.turns_with-self-inside.ensures.suits inside.own.items)
          c.learn.ensures.now (ap (λ (o : Observed). o.probes) c.purge-2.ensures.observed) ms,
      subst AreVersioned (sym ms) (learned-versioned m c.args.mapping c.args.fixed inside.cache.mappings c.requires.version c.self.invariant.2),
      subst AreShort (sym c.purge-2.ensures.observed) (recent-short m inside.locators.observed c.self.invariant.3),
      record {
        mappings = omega (arith, are.mappings, c.learn.ensures.mapping_places, c.len.ensures.len, c.len.ensures.most);
        requests = omega (arith, are.requests, c.purge.ensures.places);
        probes = omega (arith, are.probes, c.purge-2.ensures.places);
        longest = subst (λ (o : Observed). longest o ≤ 9600) (sym c.purge-2.ensures.observed) (recent-few m inside.locators.observed are.longest);
        own = are.own;
      },
      record { mappings = c.learn.ensures.limits ∙ limited.mappings; requests = c.purge.ensures.limits ∙ limited.requests; keeps = subst (KeepLimits inside.limits) (sym ms) keeps },
    )
