use Rattle.std.proofs.Common.{Err, refl, sym, subst}
use Rattle.std.specs.Option.{IfSome}
use Rattle.std.proofs.lemmas.Result.{IfOk-weaker, on_err_weaker}
use Rattle.command_words.specs.declared.intake.InputFormat.TheVariants.{Classic}
use Rattle.desk.specs.World.{Shown, World, content, shown, shown_of}
use Rattle.playback.proofs.FrontLemmas.{on_err_always}
use Rattle.replay.specs.Answer.{Gives, after_opening, messages_shown}
use Rattle.replay.specs.Front.{EndsFront, part_after_opening, shown_part}
use Rattle.replay.specs.Lines.{fault_line}
use Rattle.replay.specs.Opening.{Opened, opened, run_in}
use Rattle.replay.specs.declared.status.Status.{Status}
use Rattle.replay.specs.declared.status.Status.TheVariants.{Capture}
use Rattle.replay.proofs.AnswerCases.{ok_both, said_line}
use Rattle.replay.proofs.FrontCases.{always, front_says, front_still, show-zero}
use Rattle.replay.proofs.OpeningLemmas.{opened-goes, opened-stops}
use Rattle.replay.proofs.showing.show_capture.Goals as goal

pub returns-in-Ok-clause-answer : goal.returns-in-Ok-clause-answer
returns-in-Ok-clause-answer g c =
    let new = shown (g.D.Desk.told c.show_frames.new.desk) in
    IfOk-weaker c.show_frames.result _ _ (λ s gives.
    opened-goes (λ (r : Opened) (x : Shown). Gives (after_opening messages_shown r) s x new) (λ (w : World). opened Classic (content c.args.input.now w.files)) (run_in c.in-Ok.reader)
    (g.D.Desk.told c.args.desk.now) (g.D.Desk.told c.open_input.new.desk) (rw c.in-Ok.is at c.in_ok-reader.ensures.opened) c.in_ok-reader.ensures.shown gives) c.show_frames.ensures.answer

pub returns-in-Err-clause-answer : goal.returns-in-Err-clause-answer
returns-in-Err-clause-answer g c =
    let mid = g.D.Desk.told c.open_input.new.desk in
    let new = g.D.Desk.told c.refuse_capture.new.desk in
    let fault = c.in-Err.fault in
    ok_both c.refuse_capture.result c.refuse_capture.ensures.status c.refuse_capture.ensures.told (λ s status said.
    subst (λ (x : Status). IfSome (g.D.Desk.told c.args.desk.now) (λ w. Gives (after_opening messages_shown (opened Classic (content c.args.input.now w.files))) x (shown_of w) (shown new))) (sym status)
    (opened-stops (λ (r : Opened) (x : Shown). Gives (after_opening messages_shown r) Capture x (shown new)) (λ (w : World). opened Classic (content c.args.input.now w.files)) fault
    (g.D.Desk.told c.args.desk.now) mid (rw c.in-Err.is at c.in_ok-reader.ensures.opened) c.in_ok-reader.ensures.shown (said_line Capture (fault_line fault) mid new said)))

pub returns-in_err-reader-clause-front : goal.returns-in_err-reader-clause-front
returns-in_err-reader-clause-front g c =
    on_err_always c.from_residual.result
    (front_still (λ (w : World). after_opening messages_shown (opened Classic (content c.args.input.now w.files))) (λ (w : World). part_after_opening shown_part (opened Classic (content c.args.input.now w.files)))
    (g.D.Desk.told c.args.desk.now) (g.D.Desk.told c.open_input.new.desk) (λ w. show-zero (opened Classic (content c.args.input.now w.files))) c.in_err-reader.ensures.shown)

pub returns-in-Ok-clause-front : goal.returns-in-Ok-clause-front
returns-in-Ok-clause-front g c =
    let new = g.D.Desk.told c.show_frames.new.desk in
    on_err_weaker c.show_frames.result (λ ends.
    opened-goes (λ (r : Opened) (x : Shown). EndsFront (after_opening messages_shown r) (part_after_opening shown_part r) x new) (λ (w : World). opened Classic (content c.args.input.now w.files)) (run_in c.in-Ok.reader)
    (g.D.Desk.told c.args.desk.now) (g.D.Desk.told c.open_input.new.desk) (rw c.in-Ok.is at c.in_ok-reader.ensures.opened) c.in_ok-reader.ensures.shown ends) c.show_frames.ensures.front

pub returns-in-Err-clause-front : goal.returns-in-Err-clause-front
returns-in-Err-clause-front g c =
    let mid = g.D.Desk.told c.open_input.new.desk in
    let new = g.D.Desk.told c.refuse_capture.new.desk in
    let fault = c.in-Err.fault in
    on_err_weaker c.refuse_capture.result (λ says.
    opened-stops (λ (r : Opened) (x : Shown). EndsFront (after_opening messages_shown r) (part_after_opening shown_part r) x new) (λ (w : World). opened Classic (content c.args.input.now w.files)) fault
    (g.D.Desk.told c.args.desk.now) mid (rw c.in-Err.is at c.in_ok-reader.ensures.opened) c.in_ok-reader.ensures.shown
    (front_says (λ (w : World). after_opening messages_shown (Err fault)) (λ (w : World). part_after_opening shown_part (Err fault)) (fault_line fault) mid mid new (λ w. refl) refl (always mid (λ w. refl)) (always mid (λ w. refl)) says)) c.refuse_capture.ensures.part
