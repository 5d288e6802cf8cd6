use Rattle.std.proofs.Common.{◌≡◌, ◌≤◌, ◌+◌, ◌-◌, length, drop}
use Rattle.audit.specs.Compared.{first_difference}
use Rattle.audit.proofs.differences.first_difference.Given as goal

abbrev pub invariant-loop-place : goal.invariant-loop-place
invariant-loop-place l = record {
  due : l.place ≤ length l.due;
  sent : l.place ≤ length l.sent;
  same : first_difference l.due l.sent ≡ l.place + first_difference (drop l.place l.due) (drop l.place l.sent);
}

abbrev pub decreases-loop-place : goal.decreases-loop-place
decreases-loop-place l = length l.due - l.place
