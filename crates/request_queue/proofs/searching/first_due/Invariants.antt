use Rattle.std.proofs.Common.{◌≡◌, drop}
use Rattle.std.specs.List.{slice_get}
use Rattle.request_queue.specs.Queue.{all_due}
use Rattle.request_queue.proofs.searching.first_due.Given as goal

-- what is to come has the first that all from there on have
abbrev pub invariant-loop-index : goal.invariant-loop-index
invariant-loop-index l = slice_get (all_due l.now (drop l.index l.requests.items)) 0 ≡ slice_get (all_due l.now (drop l.from l.requests.items)) 0
