use Rattle.std.proofs.Common.{Ok, Err}
use Rattle.desk.specs.World.{Shown, World, content, shown}
use Rattle.playback.proofs.FrontLemmas.{on_err_always}
use Rattle.replay.specs.Opening.{Opened, arriving_at, opened, run_in}
use Rattle.replay.specs.Readings.{HasReplayedFile}
use Rattle.replay.specs.SharedFront.{EndsOf}
use Rattle.replay.specs.Splitting.{taken_run}
use Rattle.replay.proofs.OpeningLemmas.{itself, opened-goes, opened-stops, taken-goes, taken-stops}
use Rattle.replay.proofs.SharedFrontCases.{file_unread}
use Rattle.replay.proofs.replaying.replay_file.Goals as goal

pub returns-in_ok-counts-in-Ok-clause-answer : goal.returns-in_ok-counts-in-Ok-clause-answer
returns-in_ok-counts-in-Ok-clause-answer g c =
    let new = shown (g.D.Desk.told c.replay_taken.new.desk) in
    let counts = c.in_ok-counts-in-Ok.counts in
    opened-goes (λ (r : Opened) (x : Shown). HasReplayedFile c.args.crew.now.workers c.args.crew.now.round c.args.settings.now c.args.captures.now.output.now r (Ok counts) x new) (λ (w : World). arriving_at c.args.captures.now w.files c.args.settings.now) (λ v. taken_run c.args.captures.now.intake.split c.args.settings.now (run_in c.in-Ok.reader v))
    (g.D.Desk.told c.args.desk.now) (g.D.Desk.told c.open_input.new.desk) (taken-goes c.args.captures.now.intake.split c.args.settings.now (λ (w : World). opened c.args.captures.now.intake.format (content c.args.captures.now.input.now w.files)) (run_in c.in-Ok.reader) (g.D.Desk.told c.args.desk.now) (g.D.Desk.told c.open_input.new.desk) (rw c.in-Ok.is at c.in_ok-reader.ensures.opened)) c.in_ok-reader.ensures.shown c.in_ok-counts-in-Ok.ensures.answer

pub returns-in-Err-clause-answer : goal.returns-in-Err-clause-answer
returns-in-Err-clause-answer g c =
    let now = g.D.Desk.told c.open_input.new.desk in
    opened-stops (λ (r : Opened) (x : Shown). HasReplayedFile c.args.crew.now.workers c.args.crew.now.round c.args.settings.now c.args.captures.now.output.now r (Err c.in-Err.fault) x (shown now)) (λ (w : World). arriving_at c.args.captures.now w.files c.args.settings.now) c.in-Err.fault
    (g.D.Desk.told c.args.desk.now) now (taken-stops c.args.captures.now.intake.split c.args.settings.now (λ (w : World). opened c.args.captures.now.intake.format (content c.args.captures.now.input.now w.files)) c.in-Err.fault (g.D.Desk.told c.args.desk.now) (rw c.in-Err.is at c.in_ok-reader.ensures.opened)) c.in_ok-reader.ensures.shown (itself now c.in-Err.fault)

pub returns-in_err-reader-clause-front : goal.returns-in_err-reader-clause-front
returns-in_err-reader-clause-front g c =
    on_err_always c.from_residual.result
    (file_unread c.args.crew.now.workers c.args.crew.now.round c.args.settings.now c.args.captures.now.output.now (λ (w : World). arriving_at c.args.captures.now w.files c.args.settings.now) (g.D.Desk.told c.args.desk.now) (g.D.Desk.told c.open_input.new.desk) c.in_err-reader.ensures.shown)

pub returns-in_err-counts-in-Ok-clause-front : goal.returns-in_err-counts-in-Ok-clause-front
returns-in_err-counts-in-Ok-clause-front g c =
    let new = g.D.Desk.told c.replay_taken.new.desk in
    on_err_always c.from_residual-in_err-counts-in-Ok.result
    (opened-goes (λ (r : Opened) (x : Shown). EndsOf c.args.crew.now.workers c.args.crew.now.round c.args.settings.now c.args.captures.now.output.now r x new) (λ (w : World). arriving_at c.args.captures.now w.files c.args.settings.now) (λ v. taken_run c.args.captures.now.intake.split c.args.settings.now (run_in c.in-Ok.reader v))
    (g.D.Desk.told c.args.desk.now) (g.D.Desk.told c.open_input.new.desk) (taken-goes c.args.captures.now.intake.split c.args.settings.now (λ (w : World). opened c.args.captures.now.intake.format (content c.args.captures.now.input.now w.files)) (run_in c.in-Ok.reader) (g.D.Desk.told c.args.desk.now) (g.D.Desk.told c.open_input.new.desk) (rw c.in-Ok.is at c.in_ok-reader.ensures.opened)) c.in_ok-reader.ensures.shown c.in_err-counts-in-Ok.ensures.front)
