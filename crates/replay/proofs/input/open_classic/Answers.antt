use Rattle.std.proofs.Common.{rules, ◌∙◌}
use Rattle.std.proofs.lemmas.Result.{IfOk-weaker, on_ok_weaker}
use Rattle.desk.specs.World.{to_read}
use Rattle.replay.proofs.AuditLemmas.{named-classic, opened-keeps, started-given}
use Rattle.replay.proofs.SteadyLemmas.{given-new}
use Rattle.replay.proofs.input.open_classic.Goals as goal

pub returns-clause-opened : goal.returns-clause-opened
returns-clause-opened g c =
    let new = c.in_ok-id.ensures in
    IfOk-weaker c.start_capture.result _ _ (λ reader opens.
    named-classic c.in_ok-id.id.number c.args.name.now (g.D.Desk.told c.args.desk.now) (g.D.Desk.told c.open_file.new.self) (g.D.Desk.told c.start_capture.new.desk) reader new.fresh.reader new.told opens) c.start_capture.ensures.opened

pub returns-clause-given : goal.returns-clause-given
returns-clause-given g c =
    let new = c.in_ok-id.ensures in
    let given = given-new c.in_ok-id.id.number to_read (g.D.Desk.given c.args.desk.now) (g.D.Desk.given c.open_file.new.self) new.fresh.given new.given in
    IfOk-weaker c.start_capture.result _ _ (λ reader begins. started-given c.in_ok-id.id.number reader (g.D.Desk.given c.start_capture.new.desk) begins (rw c.start_capture.ensures.given given)) c.start_capture.ensures.begins

pub returns-clause-kept : goal.returns-clause-kept
returns-clause-kept g c =
    let new = c.in_ok-id.ensures in
    let more = c.start_capture.ensures.given ∙ new.given in
    IfOk-weaker c.start_capture.result _ _ (λ reader told. on_ok_weaker reader (λ reads.
    opened-keeps c.in_ok-id.id.number 24 c.args.name.now (g.D.Desk.given c.args.desk.now) (g.D.Desk.given c.start_capture.new.desk) (g.D.Desk.told c.args.desk.now) (g.D.Desk.told c.open_file.new.self) (g.D.Desk.told c.start_capture.new.desk)
    new.fresh.given new.told reads more) told) c.start_capture.ensures.told

pub returns-clause-steady : goal.returns-clause-steady
returns-clause-steady g c =
    let new = c.in_ok-id.ensures in
    search (rules, given-new c.in_ok-id.id.number to_read (g.D.Desk.given c.args.desk.now) (g.D.Desk.given c.open_file.new.self) new.fresh.given new.given)
