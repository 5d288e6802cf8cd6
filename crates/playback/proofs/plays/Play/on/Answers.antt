use Rattle.std.proofs.Common.{◌∙◌, Some, None, ap, refl, sym, arith, rules}
use Rattle.capture_io.specs.Frame.{Frame}
use Rattle.playback.specs.Input.{behind, left_in}
use Rattle.playback.specs.Passing.{file_of}
use Rattle.playback.proofs.PassingLemmas.{cut_playing, cut_reading, left_in-same, left_in-stays, next-within, passing-as, passing-on, passing-over}
use Rattle.playback.proofs.plays.Play.on.Goals as goal

pub loop-frame-init : goal.loop-frame-init
loop-frame-init g c = record {
  between = c.requires.between;
  same = record { id = refl; file = refl };
  ready = c.requires.ready;
  not_full = c.requires.not_full;
  more = omega arith;
  passing = λ start run old is. is;
  given = refl;
  steady = λ steady. steady;
  piece = λ less. less;
  faults = refl;
}

pub loop-frame-preserved : goal.loop-frame-preserved
loop-frame-preserved g c =
    let inv = c.loop-frame.invariant in
    let play = c.loop-frame.self in
    let read = c.in_ok-frame.ensures in
    let left = left_in g.R.FrameReader.id g.R.FrameReader.run in
    let comes = rw c.in-Frame.is at read.comes in
    let next = next-within g.R.FrameReader.most play.progress c.in-Frame.frame c.requires.few (rw inv.between.progress at (rw c.in-Frame.is at read.frame)) in
    let done = c.in_ok-is_full-in-Frame.ensures in
    let back = c.hand_back.ensures in
    let view = c.frame.view_is in
    let number = ap (λ (f : Frame). f.number) view in
    let moment = ap (λ (f : Frame). f.moment) view in
    let most = next.few in
    let counted = next.number in
    record {
      between = record {
        open_still = back.open;
        progress = back.progress ∙ (rw c.in-Frame.is at read.progress) ∙ ap behind (sym view);
        most = omega (arith, number, most);
      };
      same = record { id = back.id ∙ read.id ∙ inv.same.id; file = inv.same.file };
      ready = back.ready _ _ (rw (number, moment) done.ready);
      not_full = ap g.M.Machine.full back.state ∙ sym done.full ∙ c.if-is_full.false;
      more = omega (arith, inv.more, number, counted);
      passing = λ start run old is.
          rw (number, moment) (passing-as g.M.Machine.Does (file_of play) start run (left c.next_frame.new.self) (left c.hand_back.new.reader) (behind c.in-Frame.frame)
          (g.M.Machine.state c.play_frame.new.machine) (g.M.Machine.state c.hand_back.new.machine) c.play_frame.new.output old (g.D.Desk.told c.play_frame.new.desk)
          (left_in-same g.R.FrameReader.id g.R.FrameReader.run c.next_frame.new.self c.hand_back.new.reader back.id back.run) back.state
          (passing-on g.M.Machine.Does (file_of play) start run (left play.reader) (left c.next_frame.new.self) play.progress (g.M.Machine.state c.loop-frame.machine) (g.M.Machine.state c.play_frame.new.machine)
          old (g.D.Desk.told c.loop-frame.desk) (g.D.Desk.told c.next_frame.new.desk) (g.D.Desk.told c.play_frame.new.desk) play.output c.play_frame.new.output c.in-Frame.frame (inv.passing start run old is) comes
          (left_in-stays g.R.FrameReader.id g.R.FrameReader.run c.next_frame.new.self) next read.shown done.readers done.goes));
      given = done.given ∙ read.given ∙ inv.given;
      steady = λ steady. done.steady.stays (read.steady.stays (inv.steady steady));
      piece = λ less. done.piece;
      faults = done.cause.ok ∙ read.cause.ok ∙ inv.faults;
    }

pub returns-then-is_full-clause-passes : goal.returns-then-is_full-clause-passes
returns-then-is_full-clause-passes g c = λ start run old is.
    let inv = c.loop-frame.invariant in
    let play = c.loop-frame.self in
    let read = c.in_ok-frame.ensures in
    let left = left_in g.R.FrameReader.id g.R.FrameReader.run in
    let comes = rw c.in-Frame.is at read.comes in
    let next = next-within g.R.FrameReader.most play.progress c.in-Frame.frame c.requires.few (rw inv.between.progress at (rw c.in-Frame.is at read.frame)) in
    let done = c.in_ok-is_full-in-Frame.ensures in
    let view = c.frame.view_is in
    let number = ap (λ (f : Frame). f.number) view in
    let moment = ap (λ (f : Frame). f.moment) view in
    rw (number, moment) (passing-on g.M.Machine.Does (file_of play) start run (left play.reader) (left c.next_frame.new.self) play.progress (g.M.Machine.state c.loop-frame.machine) (g.M.Machine.state c.play_frame.new.machine)
    old (g.D.Desk.told c.loop-frame.desk) (g.D.Desk.told c.next_frame.new.desk) (g.D.Desk.told c.play_frame.new.desk) play.output c.play_frame.new.output c.in-Frame.frame (inv.passing start run old is) comes
    (left_in-stays g.R.FrameReader.id g.R.FrameReader.run c.next_frame.new.self) next read.shown done.readers done.goes)

pub returns-in_err-frame-clause-passes : goal.returns-in_err-frame-clause-passes
returns-in_err-frame-clause-passes g c = λ start run old is.
    let inv = c.loop-frame.invariant in
    let play = c.loop-frame.self in
    let left = left_in g.R.FrameReader.id g.R.FrameReader.run in
    let cut = cut_reading g.M.Machine.Does (file_of play) start run (left play.reader) play.progress (g.M.Machine.state c.loop-frame.machine)
    old (g.D.Desk.told c.loop-frame.desk) (g.D.Desk.told c.next_frame.new.desk) play.output (inv.passing start run old is) c.in_err-frame.ensures.shown in
    search (rules, rw inv.same.file at cut)

pub returns-in_err-is_full-in-Frame-clause-passes : goal.returns-in_err-is_full-in-Frame-clause-passes
returns-in_err-is_full-in-Frame-clause-passes g c = λ start run old is.
    let inv = c.loop-frame.invariant in
    let play = c.loop-frame.self in
    let read = c.in_ok-frame.ensures in
    let left = left_in g.R.FrameReader.id g.R.FrameReader.run in
    let comes = rw c.in-Frame.is at read.comes in
    let next = next-within g.R.FrameReader.most play.progress c.in-Frame.frame c.requires.few (rw inv.between.progress at (rw c.in-Frame.is at read.frame)) in
    let cut = cut_playing g.M.Machine.Does (file_of play) start run (left play.reader) (left c.next_frame.new.self) play.progress (g.M.Machine.state c.loop-frame.machine)
    old (g.D.Desk.told c.loop-frame.desk) (g.D.Desk.told c.next_frame.new.desk) (g.D.Desk.told c.play_frame.new.desk) play.output c.in-Frame.frame (inv.passing start run old is) comes next
    read.shown c.in_err-is_full-in-Frame.ensures.goes in
    search (rules, rw inv.same.file at cut)

pub returns-in-End-clause-passes : goal.returns-in-End-clause-passes
returns-in-End-clause-passes g c = λ start run old is.
    let inv = c.loop-frame.invariant in
    let play = c.loop-frame.self in
    let read = c.in_ok-frame.ensures in
    let left = left_in g.R.FrameReader.id g.R.FrameReader.run in
    let over = passing-over g.M.Machine.Does (file_of play) start run (left play.reader) play.progress (g.M.Machine.state c.loop-frame.machine) old (g.D.Desk.told c.loop-frame.desk) (g.D.Desk.told c.next_frame.new.desk) play.output None
    (inv.passing start run old is) (rw c.in-End.is at read.comes) read.shown in
    rw inv.same.file at over

pub returns-in-Fault-clause-passes : goal.returns-in-Fault-clause-passes
returns-in-Fault-clause-passes g c = λ start run old is.
    let inv = c.loop-frame.invariant in
    let play = c.loop-frame.self in
    let read = c.in_ok-frame.ensures in
    let left = left_in g.R.FrameReader.id g.R.FrameReader.run in
    let over = passing-over g.M.Machine.Does (file_of play) start run (left play.reader) play.progress (g.M.Machine.state c.loop-frame.machine) old (g.D.Desk.told c.loop-frame.desk) (g.D.Desk.told c.next_frame.new.desk) play.output (Some c.in-Fault.fault)
    (inv.passing start run old is) (rw c.in-Fault.is at read.comes) read.shown in
    rw inv.same.file at over
