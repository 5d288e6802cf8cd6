use Rattle.std.proofs.Common.{◌≡◌, ◌==◌, length, not}
use Rattle.request_queue.proofs.DropLemmas.{Dropped}
use Rattle.request_queue.proofs.queue.RequestQueue.answer.Given as goal

-- so far only such as don't pass were dropped
abbrev pub invariant-loop-place : goal.invariant-loop-place
invariant-loop-place l =
    Dropped (λ request. not (request.nonce == l.nonce)) l.initial.self-inside.requests l.self-inside.requests l.initial.self-inside.index l.self-inside.index
    × (l.self-inside.wake ≡ l.initial.self-inside.wake)
    × (l.self-inside.limits ≡ l.initial.self-inside.limits)
    × (l.self-inside.alloc ≡ l.initial.self-inside.alloc)

abbrev pub decreases-loop-place : goal.decreases-loop-place
decreases-loop-place l = length l.self-inside.requests.items
