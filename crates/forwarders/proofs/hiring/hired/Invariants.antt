use Rattle.std.proofs.Common.{◌≡◌, ◌+◌, ◌≤◌, length, All}
use Rattle.forwarders.specs.Deciding.{IsHired}
use Rattle.forwarders.proofs.hiring.hired.Given as goal

abbrev pub invariant-loop : goal.invariant-loop
invariant-loop l = (l.published ≡ l.initial.published) × (l.tally ≤ l.initial.tally + l.counter) × (length l.workers.items + l.tally ≡ l.counter + l.initial.tally)
    × All (IsHired l.initial.published) l.workers.items
