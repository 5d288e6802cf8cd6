use Rattle.std.proofs.Common.{◌≡◌, map}
use Rattle.std.specs.List.{range_with_len}
use Rattle.trial_input.specs.Trial.{trial_mapping}
use Rattle.trial_input.proofs.settings.mappings.Given as goal

-- the mappings up to here
abbrev pub invariant-loop-i : goal.invariant-loop-i
invariant-loop-i l = l.mappings ≡ map trial_mapping (range_with_len 0 l.i)
