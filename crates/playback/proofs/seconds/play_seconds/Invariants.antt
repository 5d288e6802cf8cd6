use Rattle.std.proofs.Common.{◌≡◌, ◌++◌, false, List, map, unwrap_or, IsTrue}
use Rattle.std.specs.Option.{option_map}
use Rattle.capture_events.specs.Events.{Step, Tick, steps_of, ticks}
use Rattle.desk.specs.World.{Shown}
use Rattle.playback.specs.Front.{Stands}
use Rattle.playback.specs.Machines.{IsReadyBy}
use Rattle.playback.specs.Playing.{is_full, KeepsReaders}
use Rattle.capture_events.specs.Seconds.{AreBetween}
use Rattle.playback.proofs.seconds.play_seconds.Given as goal

abbrev pub invariant-loop-second : goal.invariant-loop-second
invariant-loop-second g l = record {
  ready : (by : IsReadyBy g.M.Machine.IsReady l.fn.progress.frames l.moment l.output.written l.machine)
      × AreBetween (unwrap_or by.progress.moment 0) l.moment l.second-iterator;
  not_full : g.M.Machine.full (g.M.Machine.state l.machine) ≡ false;
  goes : (done : List Step) × ((done ++ steps_of (map Tick l.second-iterator) ≡ steps_of (ticks l.fn.progress.moment l.moment))
      × ((start : g.M.Machine.State) → (old : Shown) → (past : List Step)
      → Stands g.M.Machine.Does start (option_map (λ id. id.number) l.file) old past (g.M.Machine.state l.fn.machine) l.fn.output (g.D.Desk.told l.fn.desk)
      → Stands g.M.Machine.Does start (option_map (λ id. id.number) l.file) old (past ++ done) (g.M.Machine.state l.machine) l.output (g.D.Desk.told l.desk)));
  readers : KeepsReaders (g.D.Desk.told l.fn.desk) (g.D.Desk.told l.desk);
  given : g.D.Desk.given l.desk ≡ g.D.Desk.given l.fn.desk;
  steady : IsTrue (g.D.Desk.steady l.fn.desk) → IsTrue (g.D.Desk.steady l.desk);
  piece : is_full l.fn.output ≡ false → is_full l.output ≡ false;
  faults : g.D.Desk.faults l.desk ≡ g.D.Desk.faults l.fn.desk;
}
