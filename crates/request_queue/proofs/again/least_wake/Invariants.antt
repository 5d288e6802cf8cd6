use Rattle.std.proofs.Common.{◌≡◌, ◌≤◌, ℕ, true, drop}
use Rattle.request_queue.specs.Lists.{all_rest}
use Rattle.request_queue.proofs.again.least_wake.Given as goal

-- before the wake all rest, if those to come do
abbrev pub invariant-loop-index : goal.invariant-loop-index
invariant-loop-index l = (wake : ℕ) → wake ≤ l.wake → all_rest wake (drop l.index l.requests.items) ≡ true → all_rest wake l.requests.items ≡ true
