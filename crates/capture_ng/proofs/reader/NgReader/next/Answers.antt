use Rattle.std.proofs.Common.{sym}
use Rattle.capture_ng.proofs.ReaderLemmas.{reader_leaves, reader_leaves_fault}
use Rattle.capture_ng.proofs.reader.NgReader.next.Goals as goal

pub returns-in-Ok-clause-rest : goal.returns-in-Ok-clause-rest
returns-in-Ok-clause-rest g c =
    reader_leaves c.args.self.now c.self.inside.id.number c.self.inside.vlans c.self.inside.position c.find_frame.new.at c.self.inside.fault (g.D.Desk.told c.args.desk.now) (g.D.Desk.told c.find_frame.new.desk) c.in-Ok.found
    (sym c.self.view_is) c.in-Ok.ensures.answer c.in-Ok.ensures.position c.in-Ok.ensures.told

pub returns-after-ne-clause-rest : goal.returns-after-ne-clause-rest
returns-after-ne-clause-rest g c =
    reader_leaves_fault c.args.self.now c.self.inside.id.number c.self.inside.vlans c.self.inside.position c.if-ne.self.position c.self.inside.fault (g.D.Desk.told c.args.desk.now) (g.D.Desk.told c.find_frame.new.desk) c.in-Err.fault
    (sym c.self.view_is) c.in-Err.ensures.answer
