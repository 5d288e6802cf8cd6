use Rattle.playback.proofs.ClassicLemmas.{comes-end, comes-fault, comes-frame}
use Rattle.playback.proofs.classic.CaptureReaderFrameReader.next_frame.Goals as goal

pub returns-in-Ok-Some-clause-comes : goal.returns-in-Ok-Some-clause-comes
returns-in-Ok-Some-clause-comes g c =
    let one = c.in-Ok-Some.ensures in
    let is = c.in-Ok-Some.field-0-is in
    rw (rw is at one.after) (comes-frame c.args.self.now c.in-Ok-Some.frame (g.D.Desk.told c.args.desk.now) (g.D.Desk.told c.next.new.desk) c.requires.open (rw is at one.answer) (rw is at one.told))

pub returns-in-Ok-None-clause-comes : goal.returns-in-Ok-None-clause-comes
returns-in-Ok-None-clause-comes g c =
    comes-end c.args.self.now (g.D.Desk.told c.args.desk.now) c.requires.open (rw c.in-Ok-None.field-0-is at c.in-Ok-None.ensures.answer)

pub returns-in_ok-own_fault-in-Err-clause-comes : goal.returns-in_ok-own_fault-in-Err-clause-comes
returns-in_ok-own_fault-in-Err-clause-comes g c =
    let own = c.in_ok-own_fault-in-Err.ensures in
    rw own.0 (comes-fault c.args.self.now c.in-Err.fault (g.D.Desk.told c.args.desk.now) c.requires.open c.in-Err.ensures.answer own.1)
