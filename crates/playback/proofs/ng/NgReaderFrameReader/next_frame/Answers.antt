use Rattle.std.proofs.Common.{rules}
use Rattle.playback.proofs.NgLemmas.{comes-end, comes-fault, comes-frame, is-behind, is-next}
use Rattle.playback.proofs.ng.NgReaderFrameReader.next_frame.Goals as goal

pub returns-in-Ok-Some-clause-comes : goal.returns-in-Ok-Some-clause-comes
returns-in-Ok-Some-clause-comes g c =
    let one = c.in-Ok-Some.ensures in
    let is = c.in-Ok-Some.field-0-is in
    comes-frame c.args.self.now c.next.new.self c.in-Ok-Some.frame (g.D.Desk.told c.args.desk.now) (g.D.Desk.told c.next.new.desk) c.requires.open (rw is at one.rest) one.id one.vlans one.shown

pub returns-in-Ok-Some-clause-frame : goal.returns-in-Ok-Some-clause-frame
returns-in-Ok-Some-clause-frame g c = is-next c.args.self.now.vlans c.args.self.now c.in-Ok-Some.frame (rw c.in-Ok-Some.field-0-is at c.in-Ok-Some.ensures.next)

pub returns-in-Ok-Some-clause-progress : goal.returns-in-Ok-Some-clause-progress
returns-in-Ok-Some-clause-progress g c = is-behind c.next.new.self c.in-Ok-Some.frame c.args.self.now (rw c.in-Ok-Some.field-0-is at c.in-Ok-Some.ensures.count)

pub returns-in-Ok-None-clause-comes : goal.returns-in-Ok-None-clause-comes
returns-in-Ok-None-clause-comes g c =
    let one = c.in-Ok-None.ensures in
    comes-end c.args.self.now c.next.new.self (g.D.Desk.told c.args.desk.now) (g.D.Desk.told c.next.new.desk) c.requires.open (rw c.in-Ok-None.field-0-is at one.rest) one.shown

pub returns-in_default-clause-comes : goal.returns-in_default-clause-comes
returns-in_default-clause-comes g c =
    let one = c.in-Err.ensures in
    search (rules, comes-fault c.args.self.now c.next.new.self c.in-Err.fault (g.D.Desk.told c.args.desk.now) (g.D.Desk.told c.next.new.desk) c.requires.open one.rest one.shown)
