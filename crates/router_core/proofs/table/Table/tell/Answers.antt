use Rattle.std.proofs.Common.{List, ap, ap₂, arith, subst, sym, ℕ, ◌+◌, ◌∙◌, ◌≤◌}
use Rattle.map_cache.specs.Cache.{bits_told, lasting}
use Rattle.map_cache.specs.declared.mapping.Mapping.{Mapping}
use Rattle.request_queue.specs.declared.request.Request.{Request}
use Rattle.router_log.specs.declared.entry.Entry.TheVariants.{Bits}
use Rattle.locator_state.specs.Observed.{Observed, longest}
use Rattle.router_model.specs.Parts.{with_entry}
use Rattle.router_core.specs.Table.{TableSeen}
use Rattle.router_core.specs.Bounded.{AreShort, AreVersioned, KeepLimits}
use Rattle.router_core.proofs.BoundLemmas.{lasting-versioned, recent-short, told-versioned}
use Rattle.router_core.proofs.EntryLemmas.{parts_with, told-parts}
use Rattle.router_core.proofs.KeptTurnsLemmas.{told-behind}
use Rattle.router_core.proofs.LimitLemmas.{lasting-keeps, told-keeps}
use Rattle.router_core.proofs.LengthLemmas.{recent-few}
use Rattle.router_core.proofs.table.Table.tell.Goals as goal

pub returns : goal.returns
returns c =
    let m = c.args.m in
    let eid = c.args.eid.now in
    let told : List Mapping → List Mapping = bits_told eid c.args.bits c.args.width in
    let inside = c.self.inside in
    record {
      parts =
          ap₂ (λ (now : ℕ) (l : List Mapping). parts_with inside.limits inside.own.items inside.steps (inside.count + 1) inside.drawn now l c.purge-2.new.self.requests c.purge-3.new.self.observed) (c.set_bits.ensures.now ∙ c.purge.ensures.now) (c.set_bits.ensures.mappings ∙ ap told c.purge.ensures.mappings)
          ∙ ap₂ (λ (l : List Request) (p : Observed). parts_with inside.limits inside.own.items inside.steps (inside.count + 1) inside.drawn m (told (lasting m inside.cache.mappings)) l p) c.purge-2.ensures.requests c.purge-3.ensures.observed
          ∙ told-parts inside.limits inside.own.items inside.steps inside.count inside.drawn inside.cache.now inside.cache.mappings inside.queue.requests inside.locators.observed m eid c.args.bits c.args.width
          ∙ ap (λ (t : TableSeen). with_entry (Bits m eid c.args.bits c.args.width) t.parts) c.self.view_is;
    }

pub invariant_of-self : goal.invariant_of-self
invariant_of-self c =
    let m = c.args.m in
    let inside = c.self.inside in
    let few = c.self.invariant.0 in
    let later : inside.cache.now ≤ m = subst (λ (t : TableSeen). t.parts.now ≤ m) (sym c.self.view_is) c.requires.may.later in
    let limited = c.self.invariant.5 in
    let are = c.self.invariant.4 in (
      omega (arith, few),
      told-behind inside.own.items inside.turns inside.cache.now m inside.locators.observed.probes inside.cache.mappings c.self.invariant.1 later _ _ _ _ c.args.eid.now c.args.bits c.args.width c.turns_behind-self-inside.ensures (c.set_bits.ensures.now ∙ c.purge.ensures.now) (ap (λ (o : Observed). o.probes) c.purge-3.ensures.observed) (c.set_bits.ensures.mappings ∙ ap (bits_told c.args.eid.now c.args.bits c.args.width) c.purge.ensures.mappings),
      subst AreVersioned (sym (c.set_bits.ensures.mappings ∙ ap (bits_told c.args.eid.now c.args.bits c.args.width) c.purge.ensures.mappings)) (told-versioned c.args.eid.now c.args.bits c.args.width (lasting m inside.cache.mappings) (lasting-versioned m inside.cache.mappings c.self.invariant.2)),
      subst AreShort (sym c.purge-3.ensures.observed) (recent-short m inside.locators.observed c.self.invariant.3),
      record {
        mappings = omega (arith, are.mappings, c.set_bits.ensures.mapping_places, c.purge.ensures.mapping_places);
        requests = omega (arith, are.requests, c.purge-2.ensures.places);
        probes = omega (arith, are.probes, c.purge-3.ensures.places);
        longest = subst (λ (o : Observed). longest o ≤ 9600) (sym c.purge-3.ensures.observed) (recent-few m inside.locators.observed are.longest);
        own = are.own;
      },
      record { mappings = c.set_bits.ensures.limits ∙ c.purge.ensures.limits ∙ limited.mappings; requests = c.purge-2.ensures.limits ∙ limited.requests; keeps = subst (KeepLimits inside.limits) (sym (c.set_bits.ensures.mappings ∙ ap (bits_told c.args.eid.now c.args.bits c.args.width) c.purge.ensures.mappings)) (told-keeps inside.limits c.args.eid.now c.args.bits c.args.width (lasting m inside.cache.mappings) (lasting-keeps m inside.limits inside.cache.mappings limited.keeps)) },
    )
