use Rattle.auditing.proofs.ComingLemmas.{comes}
use Rattle.auditing.proofs.reading.read_next.Goals as goal

pub returns-clause-comes : goal.returns-clause-comes
returns-clause-comes g c =
    let next = c.next.ensures in
    comes c.args.reader.now c.next.new.self c.next.result (g.D.Desk.told c.args.desk.now) (g.D.Desk.told c.next.new.desk) c.requires.open next.answer next.after next.told
