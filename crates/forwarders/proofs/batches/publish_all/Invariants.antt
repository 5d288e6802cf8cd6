use Rattle.std.proofs.Common.{◌≡◌, ◌++◌, take}
use Rattle.forwarders.specs.Publication.{Publication}
use Rattle.forwarders.proofs.batches.publish_all.Given as goal

abbrev pub invariant-loop-batch : goal.invariant-loop-batch
invariant-loop-batch g l = let p : Publication = l.fn.published in l.published ≡ record p { batches = p.batches ++ take l.batch-index l.fn.batches }
