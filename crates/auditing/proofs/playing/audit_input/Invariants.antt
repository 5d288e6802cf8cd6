use Rattle.std.proofs.Common.{◌≡◌, ◌≤◌, ◌-◌, [], None, IsTrue}
use Rattle.capture_io.specs.Limits.{most_records}
use Rattle.desk.specs.World.{shown}
use Rattle.auditing.specs.Holding.{IsOpen}
use Rattle.auditing.proofs.FrameLemmas.{Passing}
use Rattle.auditing.proofs.playing.audit_input.Given as goal

abbrev pub invariant-loop-frame : goal.invariant-loop-frame
invariant-loop-frame g l = record {
  reads : l.reader.fault ≡ None;
  reader : l.reader.id ≡ l.fn.input.id;
  frames : l.progress.frames ≡ l.reader.position.count;
  moment : l.progress.moment ≡ l.reader.position.greatest;
  few : l.reader.position.count ≤ most_records;
  ready : g.M.Machine.IsReady l.progress l.output.written l.machine;
  records : l.output.records ≡ [];
  open_still : IsOpen l.holding;
  id : l.holding.sent.id ≡ l.fn.holding.sent.id;
  passing : Passing g.M.Machine.Does (g.M.Machine.state l.fn.machine) l.fn.input l.fn.holding.sent (g.D.Desk.told l.fn.desk) l.reader l.progress (g.M.Machine.state l.machine) l.holding (g.D.Desk.told l.desk);
  shown : shown (g.D.Desk.told l.desk) ≡ shown (g.D.Desk.told l.fn.desk);
  given : g.D.Desk.given l.desk ≡ g.D.Desk.given l.fn.desk;
  steady : IsTrue (g.D.Desk.steady l.fn.desk) → IsTrue (g.D.Desk.steady l.desk);
  faults : g.D.Desk.faults l.desk ≡ g.D.Desk.faults l.fn.desk;
}

abbrev pub decreases-loop-frame : goal.decreases-loop-frame
decreases-loop-frame g l = most_records - l.reader.position.count
