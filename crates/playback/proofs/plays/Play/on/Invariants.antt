use Rattle.std.proofs.Common.{◌≡◌, ◌≤◌, ◌-◌, false, IsTrue, Option}
use Rattle.desk.specs.World.{World}
use Rattle.playback.specs.Input.{InputRun, left_in}
use Rattle.playback.specs.Limits.{most_frames}
use Rattle.playback.specs.Passing.{IsBetween, IsPassing, IsSamePlay}
use Rattle.playback.specs.Playing.{is_full}
use Rattle.playback.proofs.plays.Play.on.Given as goal

abbrev pub invariant-loop-frame : goal.invariant-loop-frame
invariant-loop-frame g l = record {
  between : IsBetween g.R.FrameReader.IsOpen g.R.FrameReader.progress l.self;
  same : IsSamePlay g.R.FrameReader.id l.fn.self l.self;
  ready : g.M.Machine.IsReady l.self.progress l.self.output.written l.machine;
  not_full : g.M.Machine.full (g.M.Machine.state l.machine) ≡ false;
  more : l.fn.self.progress.frames ≤ l.self.progress.frames;
  passing : (start : g.M.Machine.State) → (run : World → InputRun) → (old : Option World)
      → IsPassing g.M.Machine.Does (left_in g.R.FrameReader.id g.R.FrameReader.run) start run l.fn.self (g.M.Machine.state l.fn.machine) old (g.D.Desk.told l.fn.desk)
      → IsPassing g.M.Machine.Does (left_in g.R.FrameReader.id g.R.FrameReader.run) start run l.self (g.M.Machine.state l.machine) old (g.D.Desk.told l.desk);
  given : g.D.Desk.given l.desk ≡ g.D.Desk.given l.fn.desk;
  steady : IsTrue (g.D.Desk.steady l.fn.desk) → IsTrue (g.D.Desk.steady l.desk);
  piece : is_full l.fn.self.output ≡ false → is_full l.self.output ≡ false;
  faults : g.D.Desk.faults l.desk ≡ g.D.Desk.faults l.fn.desk;
}

abbrev pub decreases-loop-frame : goal.decreases-loop-frame
decreases-loop-frame g l = most_frames - l.self.progress.frames
