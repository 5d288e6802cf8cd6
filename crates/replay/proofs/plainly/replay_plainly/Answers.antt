use Rattle.std.proofs.Common.{rules, ◌∷◌, []}
use Rattle.desk.specs.World.{to_read, to_write}
use Rattle.replay.proofs.AnswerCases.{table_replayed}
use Rattle.playback.proofs.FrontLemmas.{on_err_always}
use Rattle.replay.proofs.PlainFrontCases.{header_front, output_front, table_front}
use Rattle.replay.proofs.ReplayLemmas.{ready-first}
use Rattle.playback.specs.Input.{left_in}
use Rattle.replay.proofs.SteadyLemmas.{given-kept, given-new}
use Rattle.replay.proofs.plainly.replay_plainly.Goals as goal

pub play-ended-requires-clause-ready : goal.play-ended-requires-clause-ready
play-ended-requires-clause-ready g c = ready-first c.args.settings.now c.in_ok-table.table.parts c.requires.lawful c.in_ok-table.ensures.parts

pub returns-clause-answer : goal.returns-clause-answer
returns-clause-answer g c =
    table_replayed c.args.settings.now c.in_ok-file.file.number (g.R.FrameReader.id c.args.reader) (g.R.FrameReader.run c.args.reader) c.args.output.now (g.D.Desk.told c.args.desk.now) (g.D.Desk.told c.make_output.new.desk) (g.D.Desk.told c.play-ended.new.desk)
    c.in_ok-ending.ending c.entries_of-entries.result c.in_ok-table.table.parts c.play-ended.new.machine.table.parts c.play-ended.new.machine.settings.now c.requires.lawful c.in_ok-table.ensures.parts c.in_ok-file.ensures.fresh c.in_ok-file.ensures.told
    c.in_ok-ending.ensures.played c.entries_of-entries.ensures

pub returns-in_err-ending-clause-steady : goal.returns-in_err-ending-clause-steady
returns-in_err-ending-clause-steady g c =
    let old = g.D.Desk.given c.args.desk.now in
    let made = c.in_ok-file.ensures in
    let file = given-new c.in_ok-file.file.number to_write old (g.D.Desk.given c.make_output.new.desk) made.given_fresh made.given in
    record {
      stays = λ was. c.play-ended.ensures.steady.stays (made.steady.stays was);
      done = λ was given failed. search (rules, was, given, failed, made.steady.stays was, c.play-ended.ensures.steady.done (made.steady.stays was), file, made.given, given-kept (g.R.FrameReader.id c.args.reader) to_read old ((c.in_ok-file.file.number, to_write) ∷ []));
    }

pub returns-in_err-file-clause-front : goal.returns-in_err-file-clause-front
returns-in_err-file-clause-front g c =
    on_err_always c.from_residual.result
    (output_front c.args.settings.now (left_in g.R.FrameReader.id g.R.FrameReader.run c.args.reader) c.args.output.now (g.D.Desk.told c.args.desk.now) (g.D.Desk.told c.make_output.new.desk) c.in_err-file.ensures.part)

pub returns-in_err-table-clause-front : goal.returns-in_err-table-clause-front
returns-in_err-table-clause-front g c =
    on_err_always c.from_residual-in_err-table.result
    (header_front c.args.settings.now c.in_ok-file.file.number (left_in g.R.FrameReader.id g.R.FrameReader.run c.args.reader) c.args.output.now (g.D.Desk.told c.args.desk.now) (g.D.Desk.told c.make_output.new.desk) c.in_ok-file.ensures.fresh c.in_ok-file.ensures.told)

pub returns-in_err-ending-clause-front : goal.returns-in_err-ending-clause-front
returns-in_err-ending-clause-front g c =
    on_err_always c.from_residual-in_err-ending.result
    (table_front c.args.settings.now c.in_ok-file.file.number (g.R.FrameReader.id c.args.reader) (g.R.FrameReader.run c.args.reader) c.args.output.now (g.D.Desk.told c.args.desk.now) (g.D.Desk.told c.make_output.new.desk) (g.D.Desk.told c.play-ended.new.desk)
    c.in_ok-table.table.parts c.requires.lawful c.in_ok-table.ensures.parts c.in_ok-file.ensures.fresh c.in_ok-file.ensures.told c.in_err-ending.ensures.cut)
