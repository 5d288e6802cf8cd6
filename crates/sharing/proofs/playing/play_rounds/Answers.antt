use Rattle.std.proofs.Common.{◌∙◌, Some, sym}
use Rattle.forwarders.proofs.BatchLemmas.{journal-length}
use Rattle.playback.specs.Input.{left_in}
use Rattle.playback.proofs.FrontLemmas.{on_err_always}
use Rattle.sharing.proofs.FrontLemmas.{parts-shared, still-shared}
use Rattle.sharing.proofs.PlayLemmas.{plays-shared}
use Rattle.sharing.proofs.playing.play_rounds.Goals as goal

pub returns-clause-shared : goal.returns-clause-shared
returns-clause-shared g c =
    plays-shared c.args.settings.now c.args.crew.now.round _ (left_in g.I.FrameReader.id g.I.FrameReader.run c.args.reader) c.in_ok-ending.ending c.closed-entries.result _ _
    (g.D.Desk.told c.args.desk.now) (g.D.Desk.told c.play_on-ended.new.desk) c.requires.round.0 c.in_ok-router.ensures.begins c.in_ok-ending.ensures.played (c.closed-entries.ensures ∙ sym (journal-length c.play_on-ended.new.router.published.batches))

pub returns-in_err-router-clause-front : goal.returns-in_err-router-clause-front
returns-in_err-router-clause-front g c =
    on_err_always c.from_residual.result (still-shared c.args.settings.now c.args.crew.now.round (Some c.args.file.number) (left_in g.I.FrameReader.id g.I.FrameReader.run c.args.reader) (g.D.Desk.told c.args.desk.now))

pub returns-in_err-ending-clause-front : goal.returns-in_err-ending-clause-front
returns-in_err-ending-clause-front g c =
    on_err_always c.from_residual-in_err-ending.result (parts-shared c.args.settings.now c.args.crew.now.round (Some c.args.file.number) (left_in g.I.FrameReader.id g.I.FrameReader.run c.args.reader) _
    (g.D.Desk.told c.args.desk.now) (g.D.Desk.told c.play_on-ended.new.desk) c.requires.round.0 c.in_ok-router.ensures.begins c.in_err-ending.ensures.cut)
