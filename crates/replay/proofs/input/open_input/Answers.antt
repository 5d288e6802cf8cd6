use Rattle.std.proofs.Common.{Ok, ap, rules}
use Rattle.std.proofs.lemmas.Result.{IfOk-weaker}
use Rattle.capture_ng.specs.Reading.{NgReading}
use Rattle.command_words.specs.declared.intake.InputFormat.TheVariants as format
use Rattle.desk.specs.World.{to_read}
use Rattle.replay.specs.declared.input.Input.TheVariants as input
use Rattle.replay.proofs.OpeningLemmas.{named-opens, ng-opens}
use Rattle.replay.proofs.SteadyLemmas.{given-new}
use Rattle.replay.proofs.input.open_input.Goals as goal

pub returns-in-Classic-clause-opened : goal.returns-in-Classic-clause-opened
returns-in-Classic-clause-opened g c =
    let new = c.in_ok-id.ensures in
    rw c.in-Classic.is (IfOk-weaker c.start_classic.result _ _ (λ reader opens.
    named-opens format.Classic c.in_ok-id.id.number c.args.name.now (g.D.Desk.told c.args.desk.now) (g.D.Desk.told c.open_file.new.self) (g.D.Desk.told c.start_classic.new.desk) reader new.fresh.reader new.told opens) c.start_classic.ensures.opened)

pub returns-in-Classic-clause-given : goal.returns-in-Classic-clause-given
returns-in-Classic-clause-given g c =
    let new = c.in_ok-id.ensures in
    let given = given-new c.in_ok-id.id.number to_read (g.D.Desk.given c.args.desk.now) (g.D.Desk.given c.open_file.new.self) new.fresh.given new.given in
    IfOk-weaker c.start_classic.result _ _ (λ input ids. IfOk-weaker input _ _ (λ reader same. rw (same, c.start_classic.ensures.given) given) ids) c.start_classic.ensures.id

pub returns-in-Classic-clause-steady : goal.returns-in-Classic-clause-steady
returns-in-Classic-clause-steady g c =
    let new = c.in_ok-id.ensures in
    let given = given-new c.in_ok-id.id.number to_read (g.D.Desk.given c.args.desk.now) (g.D.Desk.given c.open_file.new.self) new.fresh.given new.given in
    search (rules, given)

pub returns-in-Ng-clause-opened : goal.returns-in-Ng-clause-opened
returns-in-Ng-clause-opened g c =
    let new = c.in_ok-id.ensures in
    let mid = g.D.Desk.told c.open_file.new.self in
    rw c.in-Ng.is (named-opens (format.Ng c.in-Ng.vlans) c.in_ok-id.id.number c.args.name.now (g.D.Desk.told c.args.desk.now) mid mid (Ok (input.Ng c.new.result)) new.fresh.reader new.told
    (ng-opens c.in_ok-id.id.number c.in-Ng.vlans mid c.new.result c.new.ensures))

pub returns-in-Ng-clause-given : goal.returns-in-Ng-clause-given
returns-in-Ng-clause-given g c =
    let new = c.in_ok-id.ensures in
    let given = given-new c.in_ok-id.id.number to_read (g.D.Desk.given c.args.desk.now) (g.D.Desk.given c.open_file.new.self) new.fresh.given new.given in
    rw (ap (λ (r : NgReading). r.id) c.new.ensures) given
