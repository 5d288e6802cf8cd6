use Rattle.std.proofs.Common.{◌≡◌, take}
use Rattle.forwarders.specs.Publication.{Publication}
use Rattle.forwarders.proofs.batches.publish_batch.Given as goal

abbrev pub invariant-loop-entry : goal.invariant-loop-entry
invariant-loop-entry g l = let p : Publication = l.fn.published in l.published ≡ record p { pending = take l.entry-index l.fn.batch }
