use Rattle.std.proofs.Common.{rules}
use Rattle.std.proofs.lemmas.Result.{IfOk-weaker}
use Rattle.desk.specs.World.{to_read}
use Rattle.replay.specs.Readings.{ReadsAs}
use Rattle.replay.proofs.PieceLemmas.{opened_left}
use Rattle.replay.proofs.SteadyLemmas.{given-new}
use Rattle.replay.proofs.settings_file.read_text.Goals as goal

pub returns-clause-text : goal.returns-clause-text
returns-clause-text g c =
    IfOk-weaker c.read_pieces.result _ _ (λ text reads.
    opened_left c.in_ok-id.id.number c.args.name.now (ReadsAs text) (g.D.Desk.told c.args.desk.now) (g.D.Desk.told c.open_file.new.self) c.in_ok-id.ensures.fresh.reader c.in_ok-id.ensures.told reads) c.read_pieces.ensures.text

pub returns-clause-steady : goal.returns-clause-steady
returns-clause-steady g c =
    search (rules, given-new c.in_ok-id.id.number to_read (g.D.Desk.given c.args.desk.now) (g.D.Desk.given c.open_file.new.self) c.in_ok-id.ensures.fresh.given c.in_ok-id.ensures.given)
