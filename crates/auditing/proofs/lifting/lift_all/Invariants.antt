use Rattle.std.proofs.Common.{◌≡◌, ◌≤◌, ◌-◌, None, IsTrue}
use Rattle.capture_io.specs.Limits.{most_records}
use Rattle.desk.specs.World.{shown}
use Rattle.auditing.proofs.LiftLemmas.{Lifting}
use Rattle.auditing.proofs.lifting.lift_all.Given as goal

abbrev pub invariant-loop-reader : goal.invariant-loop-reader
invariant-loop-reader g l = record {
  reads : l.reader.fault ≡ None;
  id : l.reader.id ≡ l.fn.sent.id;
  few : l.reader.position.count ≤ most_records;
  lifting : Lifting l.settings l.fn.sent (g.D.Desk.told l.fn.desk) l.reader l.lift (g.D.Desk.told l.desk);
  shown : shown (g.D.Desk.told l.desk) ≡ shown (g.D.Desk.told l.fn.desk);
  given : g.D.Desk.given l.desk ≡ g.D.Desk.given l.fn.desk;
  steady : IsTrue (g.D.Desk.steady l.fn.desk) → IsTrue (g.D.Desk.steady l.desk);
  faults : g.D.Desk.faults l.desk ≡ g.D.Desk.faults l.fn.desk;
}

abbrev pub decreases-loop-reader : goal.decreases-loop-reader
decreases-loop-reader g l = most_records - l.reader.position.count
