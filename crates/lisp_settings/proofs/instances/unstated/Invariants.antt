use Rattle.std.proofs.Common.{◌≡◌, take, count_by, is_none}
use Rattle.lisp_settings.specs.Instances.{stated}
use Rattle.lisp_settings.proofs.instances.unstated.Given as goal

abbrev pub invariant-loop-iid : goal.invariant-loop-iid
invariant-loop-iid l = l.count ≡ count_by (λ iid. is_none (stated l.limits iid)) (take l.iid-index l.iids)
