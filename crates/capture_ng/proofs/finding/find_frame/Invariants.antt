use Rattle.std.proofs.Common.{◌-◌, ◌≡◌, IsTrue}
use Rattle.desk.specs.World.{shown}
use Rattle.capture_ng.specs.Finding.{IsPast}
use Rattle.capture_ng.specs.Limits.{most_blocks}
use Rattle.capture_ng.proofs.finding.find_frame.Given as goal

abbrev pub invariant-loop-head : goal.invariant-loop-head
invariant-loop-head g l = record {
  past : IsPast l.id.number l.vlans (g.D.Desk.told l.initial.desk) (g.D.Desk.told l.desk) l.initial.at l.at;
  given : g.D.Desk.given l.desk ≡ g.D.Desk.given l.initial.desk;
  shown : shown (g.D.Desk.told l.desk) ≡ shown (g.D.Desk.told l.initial.desk);
  steady : IsTrue (g.D.Desk.steady l.initial.desk) → IsTrue (g.D.Desk.steady l.desk);
  faults : g.D.Desk.faults l.desk ≡ g.D.Desk.faults l.initial.desk;
}

abbrev pub decreases-loop-head : goal.decreases-loop-head
decreases-loop-head g l = most_blocks - l.at.blocks
