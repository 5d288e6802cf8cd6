use Rattle.std.proofs.Common.{◌≡◌, ◌-◌, false, Some, IsTrue}
use Rattle.playback.specs.Input.{left_in}
use Rattle.playback.specs.Limits.{most_frames}
use Rattle.playback.specs.Passing.{IsBetween, IsPassing}
use Rattle.sharing.specs.Gathering.{InRounds, MayPlay, is_due, state_of}
use Rattle.sharing.proofs.playing.play_on.Given as goal

abbrev pub invariant-loop-play : goal.invariant-loop-play
invariant-loop-play g l = record {
  between : IsBetween g.I.FrameReader.IsOpen g.I.FrameReader.progress l.play;
  id : g.I.FrameReader.id l.play.reader ≡ g.I.FrameReader.id l.fn.reader;
  file : l.play.file ≡ Some l.fn.file;
  ready : MayPlay l.router l.play.progress l.play.output.written;
  not_full : is_due (state_of l.router) ≡ false;
  passing : IsPassing InRounds (left_in g.I.FrameReader.id g.I.FrameReader.run)
      (state_of l.fn.router) (left_in g.I.FrameReader.id g.I.FrameReader.run l.fn.reader) l.play
      (state_of l.router) (g.D.Desk.told l.fn.desk) (g.D.Desk.told l.desk);
  given : g.D.Desk.given l.desk ≡ g.D.Desk.given l.fn.desk;
  steady : IsTrue (g.D.Desk.steady l.fn.desk) → IsTrue (g.D.Desk.steady l.desk);
  faults : g.D.Desk.faults l.desk ≡ g.D.Desk.faults l.fn.desk;
}

abbrev pub decreases-loop-play : goal.decreases-loop-play
decreases-loop-play g l = most_frames - l.play.progress.frames
