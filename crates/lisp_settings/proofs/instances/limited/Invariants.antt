use Rattle.std.proofs.Common.{◌≡◌, take, map, unwrap_or, min, ◌/◌}
use Rattle.lisp_settings.specs.Instances.{stated}
use Rattle.lisp_settings.specs.Limits.{most_requests}
use Rattle.lisp_settings.proofs.instances.limited.Given as goal

abbrev pub invariant-loop-iid : goal.invariant-loop-iid
invariant-loop-iid l = l.items.items ≡ map (λ iid. unwrap_or (stated l.stated iid) (record {
  iid = iid;
  mappings = l.left.mappings / l.count;
  requests = min most_requests (l.left.requests / l.count);
})) (take l.iid-index l.iids)
