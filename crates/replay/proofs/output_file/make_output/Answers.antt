use Rattle.std.proofs.Common.{◌∙◌, rules}
use Rattle.desk.specs.World.{to_write}
use Rattle.playback.proofs.FrontLemmas.{on_err_always}
use Rattle.replay.proofs.FrontCases.{makes_part}
use Rattle.replay.proofs.SteadyLemmas.{given-new}
use Rattle.replay.proofs.output_file.make_output.Goals as goal

pub returns-in_err-write_file-clause-part : goal.returns-in_err-write_file-clause-part
returns-in_err-write_file-clause-part g c =
    on_err_always c.from_residual-in_err-write_file.result
    (makes_part c.in_ok-id.id.number c.args.name.now c.as_slice.result.now (g.D.Desk.told c.args.desk.now) (g.D.Desk.told c.make_file.new.self) (g.D.Desk.told c.write_file.new.self) (c.as_slice.ensures ∙ c.in_ok-header.ensures)
    c.in_ok-id.ensures.fresh.writer c.in_ok-id.ensures.told c.in_err-write_file.ensures.err)

pub returns-in_err-write_file-clause-steady : goal.returns-in_err-write_file-clause-steady
returns-in_err-write_file-clause-steady g c =
    search (rules, given-new c.in_ok-id.id.number to_write (g.D.Desk.given c.args.desk.now) (g.D.Desk.given c.make_file.new.self) c.in_ok-id.ensures.fresh.given c.in_ok-id.ensures.given)
