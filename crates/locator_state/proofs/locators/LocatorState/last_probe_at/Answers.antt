use Rattle.std.proofs.Common.{◌≡◌, rules, option_map, None, Some, ap}
use Rattle.std.specs.Option.{option_copied}
use Rattle.locator_state.specs.Lists.{only_if}
use Rattle.locator_state.specs.Observed.{Located}
use Rattle.locator_state.specs.Probes.{probe_counts}
use Rattle.locator_state.proofs.FoundLemmas.{moment-like}
use Rattle.locator_state.proofs.locators.LocatorState.last_probe_at.Goals as goal

pub returns-then-probe_counts : goal.returns-then-probe_counts
returns-then-probe_counts c =
    let probes = c.self.inside.probes.items in
    let is : Some c.in_ok-probe.probe.now.moment ≡ option_map (λ probe. probe.moment) (only_if (probe_counts c.args.m) (option_copied c.last_like.result)) = search rules in
    moment-like c.args.m c.args.place probes c.args.self.now.observed.probes (option_copied c.last_like.result) (Some c.in_ok-probe.probe.now.moment) is c.last_like.ensures (ap (λ (l : Located). l.observed.probes) c.self.view_is)

pub returns : goal.returns
returns c =
    let probes = c.self.inside.probes.items in
    let is : None ≡ option_map (λ probe. probe.moment) (only_if (probe_counts c.args.m) (option_copied c.last_like.result)) = search rules in
    moment-like c.args.m c.args.place probes c.args.self.now.observed.probes (option_copied c.last_like.result) None is c.last_like.ensures (ap (λ (l : Located). l.observed.probes) c.self.view_is)
