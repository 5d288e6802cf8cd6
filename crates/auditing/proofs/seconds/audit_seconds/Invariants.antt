use Rattle.std.proofs.Common.{◌≡◌, ◌++◌, [], List, map, unwrap_or, IsTrue}
use Rattle.std.specs.Option.{IsSomeAnd}
use Rattle.capture_events.specs.Events.{Step, Tick, steps_of, ticks}
use Rattle.capture_io.specs.Run.{Run}
use Rattle.capture_io.specs.declared.fault.CaptureFault.{CaptureFault}
use Rattle.desk.specs.World.{World, shown}
use Rattle.playback.specs.Machines.{IsReadyBy}
use Rattle.capture_events.specs.Seconds.{AreBetween}
use Rattle.auditing.specs.Holding.{Holds, IsOpen}
use Rattle.auditing.proofs.seconds.audit_seconds.Given as goal

abbrev pub invariant-loop-second : goal.invariant-loop-second
invariant-loop-second g l = record {
  ready : (by : IsReadyBy g.M.Machine.IsReady l.fn.progress.frames l.moment l.output.written l.machine)
      × AreBetween (unwrap_or by.progress.moment 0) l.moment l.second-iterator;
  records : l.output.records ≡ [];
  open_still : IsOpen l.holding;
  id : l.holding.sent.id ≡ l.fn.holding.sent.id;
  proceeds : (done : List Step) × ((done ++ steps_of (map Tick l.second-iterator) ≡ steps_of (ticks l.fn.progress.moment l.moment))
      × ((start : g.M.Machine.State) → (run : Run CaptureFault) → (base : World) → (past : List Step)
      → IsSomeAnd (g.D.Desk.told l.fn.desk) (Holds g.M.Machine.Does start run base past (g.M.Machine.state l.fn.machine) l.fn.holding)
      → IsSomeAnd (g.D.Desk.told l.desk) (Holds g.M.Machine.Does start run base (past ++ done) (g.M.Machine.state l.machine) l.holding)));
  shown : shown (g.D.Desk.told l.desk) ≡ shown (g.D.Desk.told l.fn.desk);
  given : g.D.Desk.given l.desk ≡ g.D.Desk.given l.fn.desk;
  steady : IsTrue (g.D.Desk.steady l.fn.desk) → IsTrue (g.D.Desk.steady l.desk);
  faults : g.D.Desk.faults l.desk ≡ g.D.Desk.faults l.fn.desk;
}
