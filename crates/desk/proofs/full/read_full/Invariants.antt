use Rattle.std.proofs.Common.{length, IsTrue, ◌-◌, ◌≡◌}
use Rattle.desk.proofs.Reading.{SoFar}
use Rattle.desk.proofs.full.read_full.Given as goal

abbrev pub invariant-loop-filled : goal.invariant-loop-filled
invariant-loop-filled g l = record {
  so_far : SoFar l.id.number l.filled (g.D.Desk.told l.initial.desk) (g.D.Desk.told l.desk) l.buf;
  given : g.D.Desk.given l.desk ≡ g.D.Desk.given l.initial.desk;
  steady : IsTrue (g.D.Desk.steady l.initial.desk) → IsTrue (g.D.Desk.steady l.desk);
  faults : g.D.Desk.faults l.desk ≡ g.D.Desk.faults l.initial.desk;
}

abbrev pub decreases-loop-filled : goal.decreases-loop-filled
decreases-loop-filled g l = length l.initial.buf - l.filled
