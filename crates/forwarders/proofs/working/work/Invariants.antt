use Rattle.std.proofs.Common.{◌≡◌, ◌≤◌, ◌<◌, ◌+◌, ◌-◌, ◌*◌, ◌^◌, length, All}
use Rattle.forwarders.specs.Batches.{Begins}
use Rattle.forwarders.specs.Deciding.{AreDealt, IsAnswer}
use Rattle.forwarders.proofs.working.work.Given as goal

abbrev pub invariant-loop-index : goal.invariant-loop-index
invariant-loop-index g l = let first = l.fn.worker.forwarder in let now = l.worker.forwarder in
    (now.settings ≡ first.settings) × (now.plan ≡ first.plan)
    × Begins first.seen now.seen × (l.worker.tally ≤ l.index) × (l.index < 2 ^ 62)
    × All (IsAnswer l.fn.round.settings.now first.seen first.plan l.fn.round.frames.now l.fn.places) l.worker.answers.items
    × (l.index ≡ length l.worker.answers.items * l.step + l.start) × AreDealt l.start l.step l.worker.answers.items

abbrev pub decreases-loop-index : goal.decreases-loop-index
decreases-loop-index g l = length l.fn.places - l.index
