use Rattle.std.proofs.Common.{◌≡◌, ◌++◌, ◌+◌, ◌≤◌, length, vec_len, vec_capacity}
use Rattle.request_queue.specs.Queue.{all_due, asked_after}
use Rattle.router_core.proofs.table.Table.due_requests.Given as goal

-- those so far, and those still to come, are all that are due; there is room for them
abbrev pub invariant-loop-request : goal.invariant-loop-request
invariant-loop-request l = record {
  whole : l.due.items ++ all_due l.m (asked_after l.after l.self.parts.requests) ≡ all_due l.m l.self.parts.requests;
  room : vec_len l.due + length (all_due l.m (asked_after l.after l.self.parts.requests)) ≤ vec_capacity l.due;
}

abbrev pub decreases-loop-request : goal.decreases-loop-request
decreases-loop-request l = length (all_due l.m (asked_after l.after l.self.parts.requests))
