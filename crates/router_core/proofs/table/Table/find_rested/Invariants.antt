use Rattle.std.proofs.Common.{◌<◌, ◌-◌, length, vec_capacity}
use Rattle.locator_state.specs.Limits.{most_targets}
use Rattle.router_core.specs.Turning.{AreChosen, eligible}
use Rattle.router_core.proofs.AheadLemmas.{AreToCome}
use Rattle.router_core.proofs.table.Table.find_rested.Given as goal

-- each target that isn't placed has its probe ahead
abbrev pub invariant-loop-moment : goal.invariant-loop-moment
invariant-loop-moment l =
    AreChosen (eligible l.site l.self.parts l.m) l.first.items
    × (most_targets < vec_capacity l.first)
    × AreToCome (eligible l.site l.self.parts l.m) l.first.items l.place l.self.parts.observed.probes

abbrev pub decreases-loop-moment : goal.decreases-loop-moment
decreases-loop-moment l = length l.self.parts.observed.probes - l.place
