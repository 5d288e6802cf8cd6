use Rattle.std.proofs.Common.{List, ap, ap₂, arith, subst, sym, ℕ, ◌+◌, ◌<◌, ◌∙◌, ◌≡◌, ◌≤◌, count_by}
use Rattle.locator_state.specs.Echoes.{wanted, wish_counts}
use Rattle.locator_state.specs.Observed.{Observed, longest, with_wishes}
use Rattle.map_cache.specs.Cache.{lasting}
use Rattle.map_cache.specs.declared.mapping.Mapping.{Mapping}
use Rattle.request_queue.specs.declared.request.Request.{Request}
use Rattle.router_log.specs.declared.entry.Entry.TheVariants.{EchoWanted}
use Rattle.router_model.specs.Parts.{with_entry}
use Rattle.router_core.specs.Table.{TableSeen}
use Rattle.router_core.specs.Bounded.{AreShort, AreVersioned, KeepLimits}
use Rattle.router_core.proofs.BoundLemmas.{lasting-versioned, wanted-short}
use Rattle.router_core.proofs.EntryLemmas.{left_by, parts_with, wanted-parts}
use Rattle.router_core.proofs.KeptTurnsLemmas.{behind}
use Rattle.router_core.proofs.LimitLemmas.{lasting-keeps}
use Rattle.router_core.proofs.LengthLemmas.{few-wishes, wanted-few}
use Rattle.router_core.proofs.table.Table.want_echo.Goals as goal

pub returns : goal.returns
returns c =
    let m = c.args.m in
    let inside = c.self.inside in
    let os : c.echo_wanted.new.self.observed ≡ with_wishes m (wanted m c.args.rloc c.args.nonce inside.locators.observed.wishes) inside.locators.observed =
    left_by c.echo_wanted.result c.echo_wanted.ensures.ok (sym c.is_err.ensures.value ∙ c.if-is_err.false) in
    record {
      parts =
          ap₂ (λ (now : ℕ) (l : List Mapping). parts_with inside.limits inside.own.items inside.steps (inside.count + 1) inside.drawn now l c.purge-2.new.self.requests c.echo_wanted.new.self.observed) c.purge.ensures.now c.purge.ensures.mappings
          ∙ ap₂ (λ (l : List Request) (p : Observed). parts_with inside.limits inside.own.items inside.steps (inside.count + 1) inside.drawn m (lasting m inside.cache.mappings) l p) c.purge-2.ensures.requests os
          ∙ wanted-parts inside.limits inside.own.items inside.steps inside.count inside.drawn inside.cache.now inside.cache.mappings inside.queue.requests inside.locators.observed m c.args.rloc c.args.nonce
          ∙ ap (λ (t : TableSeen). with_entry (EchoWanted m c.args.rloc c.args.nonce) t.parts) c.self.view_is;
    }

pub invariant_of-self : goal.invariant_of-self
invariant_of-self c =
    let m = c.args.m in
    let inside = c.self.inside in
    let few = c.self.invariant.0 in
    let later : inside.cache.now ≤ m = subst (λ (t : TableSeen). t.parts.now ≤ m) (sym c.self.view_is) c.requires.may.later in
    let limited = c.self.invariant.5 in
    let are = c.self.invariant.4 in
    let os : c.echo_wanted.new.self.observed ≡ with_wishes m (wanted m c.args.rloc c.args.nonce inside.locators.observed.wishes) inside.locators.observed =
    left_by c.echo_wanted.result c.echo_wanted.ensures.ok (sym c.is_err.ensures.value ∙ c.if-is_err.false) in
    let place = subst (λ (t : TableSeen). count_by (wish_counts m) t.parts.observed.wishes < 4096) (sym c.self.view_is) (few-wishes c.args.self.now.parts m c.requires.may.later c.args.rloc c.args.nonce c.requires.place) in (
      omega (arith, few),
      behind inside.own.items inside.turns inside.cache.now m inside.locators.observed.probes inside.cache.mappings c.self.invariant.1 later _ _ _ _ c.turns_behind-self-inside.ensures c.purge.ensures.now (ap (λ (o : Observed). o.probes) os) c.purge.ensures.mappings,
      subst AreVersioned (sym c.purge.ensures.mappings) (lasting-versioned m inside.cache.mappings c.self.invariant.2),
      subst AreShort (sym os) (wanted-short m c.args.rloc c.args.nonce inside.locators.observed c.requires.short c.self.invariant.3),
      record {
        mappings = omega (arith, are.mappings, c.purge.ensures.mapping_places);
        requests = omega (arith, are.requests, c.purge-2.ensures.places);
        probes = omega (arith, are.probes, are.longest, c.echo_wanted.ensures.places);
        longest = subst (λ (o : Observed). longest o ≤ 9600) (sym os) (wanted-few m c.args.rloc c.args.nonce inside.locators.observed are.longest place);
        own = are.own;
      },
      record { mappings = c.purge.ensures.limits ∙ limited.mappings; requests = c.purge-2.ensures.limits ∙ limited.requests; keeps = subst (KeepLimits inside.limits) (sym c.purge.ensures.mappings) (lasting-keeps m inside.limits inside.cache.mappings limited.keeps) },
    )
