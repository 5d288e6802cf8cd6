-- A second at which own locators change: the changes that are due, the locators that get SMRs, and room for all that is
-- sent.
use Rattle.std.specs.Prelude.{◌≡◌, ◌<◌, ◌≤◌, ◌+◌, ◌*◌, ℕ, nat_le, Bool, List, [], vec_capacity}
use Rattle.std.specs.List.{list_any}
use Rattle.lisp_settings.specs.declared.settings.Change.{Change}
use Rattle.router_log.specs.Moments.{seconds}
use Rattle.router_model.specs.Limits.{most_databases, most_targets, most_told}
use Rattle.router_core.specs.Table.{TableSeen}
use Rattle.router_core.specs.declared.ticking.Found.{Found}

-- whether one of these changes is due at a moment
abbrev pub is_some_due : ℕ → List Change → Bool
is_some_due m changes = list_any (λ change. nat_le (seconds change.at) m) changes

-- the most entries, and the most emits, behind the changes of a second in which so many requests are due
abbrev pub most_sent : ℕ → ℕ
most_sent due = most_told * most_databases + (due + most_targets)

-- the room for probes and for SMRs is no less than before
pub record LeavesRoom (old new : TableSeen) : Type 0 where
  pub probes : old.probe_room ≤ new.probe_room
  pub solicits : old.solicit_room ≤ new.solicit_room

-- no locator was found yet at a second, and there is room for those that may be found
pub record IsEmptyFor (found : Found) : Type 0 where
  pub told : found.told.items ≡ []
  pub targets : found.targets.items ≡ []
  pub told_room : most_told < vec_capacity found.told
  pub target_room : most_targets < vec_capacity found.targets
