use Rattle.std.proofs.Common.{◌≡◌, ◌≤◌, ◌-◌, None, IsTrue}
use Rattle.desk.specs.World.{shown}
use Rattle.capture_io.specs.Limits.{most_records}
use Rattle.auditing.proofs.ComingLemmas.{KeepsFault}
use Rattle.auditing.proofs.reading.read_to_end.Given as goal

abbrev pub invariant-loop-reader : goal.invariant-loop-reader
invariant-loop-reader g l = record {
  open_still : l.reader.fault ≡ None;
  few : l.reader.position.count ≤ most_records;
  id : l.reader.id ≡ l.fn.capture.id;
  keeps : KeepsFault l.fn.capture (g.D.Desk.told l.fn.desk) l.reader (g.D.Desk.told l.desk);
  shown : shown (g.D.Desk.told l.desk) ≡ shown (g.D.Desk.told l.fn.desk);
  given : g.D.Desk.given l.desk ≡ g.D.Desk.given l.fn.desk;
  steady : IsTrue (g.D.Desk.steady l.fn.desk) → IsTrue (g.D.Desk.steady l.desk);
  faults : g.D.Desk.faults l.desk ≡ g.D.Desk.faults l.fn.desk;
}

abbrev pub decreases-loop-reader : goal.decreases-loop-reader
decreases-loop-reader g l = most_records - l.reader.position.count
