use Rattle.std.proofs.Common.{◌∙◌, sym, subst}
use Rattle.std.proofs.lemmas.Result.{IfOk-weaker}
use Rattle.desk.specs.World.{Shown, World, content, shown, shown_of, IsThere}
use Rattle.desk.proofs.Reading.{IfSome_both}
use Rattle.replay.specs.Answer.{told_off, Gives}
use Rattle.replay.specs.Lines.{settings_line}
use Rattle.replay.specs.Opening.{arriving_at}
use Rattle.replay.specs.Shared.{GivesFor, GivesOf}
use Rattle.replay.specs.declared.status.Status.{Status}
use Rattle.replay.specs.declared.status.Status.TheVariants as status
use Rattle.replay.proofs.AnswerCases.{ok_both, said_line, shown_stays}
use Rattle.replay.proofs.SharedCases.{gives_refused, gives_settings}
use Rattle.std.proofs.lemmas.Option.{IfSome_then}
use Rattle.std.proofs.lemmas.Result.{on_err_weaker}
use Rattle.playback.proofs.FrontLemmas.{on_err_always}
use Rattle.replay.specs.SharedFront.{EndsOf}
use Rattle.replay.proofs.SharedFrontCases.{ends_refused, ends_settings, ends_unloaded}
use Rattle.replay.proofs.SteadyLemmas.{owed-lawful, there-kept}
use Rattle.replay.proofs.replaying.replay_capture.Goals as goal

pub returns-in-Err-clause-answer : goal.returns-in-Err-clause-answer
returns-in-Err-clause-answer g c =
    let old = g.D.Desk.told c.args.desk.now in
    let loaded = g.D.Desk.told c.load_settings.new.desk in
    let new = g.D.Desk.told c.refuse_settings.new.desk in
    let refused = settings_line c.in-Err.fault in
    let workers = c.args.crew.now.workers in
    let size = c.args.crew.now.round in
    ok_both c.refuse_settings.result c.refuse_settings.ensures.status c.refuse_settings.ensures.told (λ s is said.
    let gives = shown_stays (λ (o : Shown). Gives (told_off status.Settings refused) status.Settings o (shown new)) old loaded c.in_ok-settings.ensures.shown (said_line status.Settings refused loaded new said) in
    IfSome_both old c.in_ok-settings.ensures.value gives (λ w value given.
    let what = arriving_at c.args.captures.now w.files in
    let text = content c.args.settings.now w.files in
    subst (λ (x : Status). GivesFor workers size c.args.captures.now.output.now what text x (shown_of w) (shown new)) (sym is)
    (gives_refused workers size c.args.captures.now.output.now what text c.in-Err.fault status.Settings (shown_of w) (shown new) (sym c.in-Err.is ∙ value) given)))

pub returns-in-Ok-clause-answer : goal.returns-in-Ok-clause-answer
returns-in-Ok-clause-answer g c =
    let old = g.D.Desk.told c.args.desk.now in
    let new = g.D.Desk.told c.replay_by.new.desk in
    let workers = c.args.crew.now.workers in
    let size = c.args.crew.now.round in
    IfOk-weaker c.replay_by.result _ _ (λ s answered.
    let gives = shown_stays (λ (o : Shown). GivesOf workers size c.in-Ok.settings c.args.captures.now.output.now (arriving_at c.args.captures.now o.files c.in-Ok.settings) s o (shown new)) old (g.D.Desk.told c.load_settings.new.desk) c.in_ok-settings.ensures.shown answered in
    IfSome_both old c.in_ok-settings.ensures.value gives (λ w value given.
    gives_settings workers size c.in-Ok.settings c.args.captures.now.output.now (arriving_at c.args.captures.now w.files) (content c.args.settings.now w.files) s (shown_of w) (shown new) (sym c.in-Ok.is ∙ value) given)) c.replay_by.ensures.answer

pub returns-in_err-settings-clause-front : goal.returns-in_err-settings-clause-front
returns-in_err-settings-clause-front g c =
    on_err_always c.from_residual.result
    (ends_unloaded c.args.crew.now.workers c.args.crew.now.round c.args.captures.now.output.now (λ (w : World). arriving_at c.args.captures.now w.files) c.args.settings.now (g.D.Desk.told c.args.desk.now) (g.D.Desk.told c.load_settings.new.desk) c.in_err-settings.ensures.shown)

pub returns-in-Err-clause-front : goal.returns-in-Err-clause-front
returns-in-Err-clause-front g c =
    let old = g.D.Desk.told c.args.desk.now in
    on_err_weaker c.refuse_settings.result (λ says.
    ends_refused c.args.crew.now.workers c.args.crew.now.round c.args.captures.now.output.now (λ (w : World). arriving_at c.args.captures.now w.files) c.args.settings.now c.in-Err.fault old (g.D.Desk.told c.load_settings.new.desk) (g.D.Desk.told c.refuse_settings.new.desk) c.in_ok-settings.ensures.shown
    (IfSome_then old c.in_ok-settings.ensures.value (λ w value. sym c.in-Err.is ∙ value)) says) c.refuse_settings.ensures.part

pub returns-in-Ok-clause-front : goal.returns-in-Ok-clause-front
returns-in-Ok-clause-front g c =
    let old = g.D.Desk.told c.args.desk.now in
    let new = g.D.Desk.told c.replay_by.new.desk in
    let workers = c.args.crew.now.workers in
    let size = c.args.crew.now.round in
    on_err_weaker c.replay_by.result (λ ends.
    let moved = shown_stays (λ (o : Shown). EndsOf workers size c.in-Ok.settings c.args.captures.now.output.now (arriving_at c.args.captures.now o.files c.in-Ok.settings) o new) old (g.D.Desk.told c.load_settings.new.desk) c.in_ok-settings.ensures.shown ends in
    IfSome_both old c.in_ok-settings.ensures.value moved (λ w value given.
    ends_settings workers size c.in-Ok.settings c.args.captures.now.output.now (arriving_at c.args.captures.now w.files) (content c.args.settings.now w.files) (shown_of w) new (sym c.in-Ok.is ∙ value) given)) c.replay_by.ensures.front

pub returns-in-Ok-clause-steady : goal.returns-in-Ok-clause-steady
returns-in-Ok-clause-steady g c =
    let old = g.D.Desk.told c.args.desk.now in
    let read = c.in_ok-settings.ensures in
    let input = c.args.captures.now.input.now in
    record {
      stays = λ was. c.replay_by.ensures.steady.stays (read.steady.stays was);
      done = λ was owed failed.
          let is = owed-lawful (λ _. IsThere input old) c.args.settings.now c.in-Ok.settings old owed.0 (IfSome_then old read.value (λ w value. sym c.in-Ok.is ∙ value)) owed.1 in
          c.replay_by.ensures.steady.done (read.steady.stays was) (there-kept input old (g.D.Desk.told c.load_settings.new.desk) read.shown is) failed;
    }
