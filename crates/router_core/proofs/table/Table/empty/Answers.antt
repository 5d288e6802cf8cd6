use Rattle.std.proofs.Common.{◌≤◌, ap, arith, subst, sym}
use Rattle.std.proofs.lemmas.List.Elements.{All-nil}
use Rattle.locator_state.specs.Observed.{Observed, longest}
use Rattle.router_core.specs.Bounded.{AreShort, AreVersioned, IsShortStart, IsShortWish, IsVersioned, KeepLimits}
use Rattle.router_core.proofs.KeptTurnsLemmas.{nothing-turned}
use Rattle.router_core.proofs.LimitLemmas.{none-keep}
use Rattle.router_core.proofs.table.Table.empty.Goals as goal

pub invariant_of-result : goal.invariant_of-result
invariant_of-result c = (
  omega arith,
  nothing-turned _ _ _ _ _ c.no_turns.ensures (ap (λ (o : Observed). o.probes) c.new-3.ensures.observed),
  subst AreVersioned (sym c.in_ok-cache.ensures.mappings) (All-nil IsVersioned),
  subst AreShort (sym c.new-3.ensures.observed) (All-nil IsShortStart, All-nil IsShortWish),
  record {
    mappings = omega (arith, c.in_ok-cache.ensures.mapping_places);
    requests = omega (arith, c.in_ok-queue.ensures.places);
    probes = omega (arith, c.new-3.ensures.places);
    longest = subst (λ (o : Observed). longest o ≤ 9600) (sym c.new-3.ensures.observed) (omega arith);
    own = c.requires;
  },
  record {
    mappings = c.in_ok-cache.ensures.limits;
    requests = c.in_ok-queue.ensures.limits;
    keeps = subst (KeepLimits c.args.limits) (sym c.in_ok-cache.ensures.mappings) (none-keep c.args.limits c.as_slice.ensures.limits.mappings);
  },
)
