use Rattle.std.proofs.Common.{◌-◌, ◌≡◌, ◌≤◌, IsTrue}
use Rattle.desk.specs.World.{shown}
use Rattle.capture_ng.specs.Coming.{IsComing}
use Rattle.capture_ng.proofs.coming.skip.Given as goal

abbrev pub invariant-loop-passed : goal.invariant-loop-passed
invariant-loop-passed g l = record {
  within : l.passed ≤ l.size;
  so_far : IsComing l.id.number l.passed (g.D.Desk.told l.initial.desk) (g.D.Desk.told l.desk);
  given : g.D.Desk.given l.desk ≡ g.D.Desk.given l.initial.desk;
  shown : shown (g.D.Desk.told l.desk) ≡ shown (g.D.Desk.told l.initial.desk);
  steady : IsTrue (g.D.Desk.steady l.initial.desk) → IsTrue (g.D.Desk.steady l.desk);
  faults : g.D.Desk.faults l.desk ≡ g.D.Desk.faults l.initial.desk;
}

abbrev pub decreases-loop-passed : goal.decreases-loop-passed
decreases-loop-passed g l = l.size - l.passed
