use Rattle.std.proofs.Common.{◌≡◌, take, min}
use Rattle.lisp_settings.specs.Instances.{all_mappings, all_requests}
use Rattle.lisp_settings.proofs.limiting.sums.Given as goal

abbrev pub invariant-loop-limit : goal.invariant-loop-limit
invariant-loop-limit l =
    (l.mappings ≡ min (all_mappings (take l.limit-index l.limits)) 4294967295)
    × (l.requests ≡ min (all_requests (take l.limit-index l.limits)) 4294967295)
