use Rattle.std.proofs.Common.{sym, subst, Some, refl, IsErrOf}
use Rattle.desk.specs.Causes.{StaysSteady}
use Rattle.desk.specs.declared.fault.DeskFault.TheVariants.{Failed}
use Rattle.std.proofs.lemmas.Option.{IfSome_then}
use Rattle.std.proofs.lemmas.Result.{IfOk-weaker, on_err_weaker}
use Rattle.command_words.specs.declared.words.Words.{Words}
use Rattle.command_words.specs.declared.words.Words.TheVariants.{Audit, Show, Trial}
use Rattle.desk.specs.World.{shown, shown_of}
use Rattle.replay.specs.Answer.{after_words}
use Rattle.replay.specs.Front.{part_after_words}
use Rattle.replay.specs.Owed.{AreThere}
use Rattle.replay.specs.Shared.{GivesAfter}
use Rattle.replay.specs.Trial.{trial_text}
use Rattle.replay.proofs.FrontCases.{always, front_says, words-zero}
use Rattle.replay.specs.SharedFront.{EndsAfter}
use Rattle.replay.proofs.SharedCases.{by_plain}
use Rattle.replay.proofs.SharedFrontCases.{ends_after}
use Rattle.replay.proofs.running.do_words.Goals as goal

pub returns-in-Trial-clause-front : goal.returns-in-Trial-clause-front
returns-in-Trial-clause-front g c =
    let old = g.D.Desk.told c.args.desk.now in
    let new = g.D.Desk.told c.try_number.new.desk in
    on_err_weaker c.try_number.result (λ says. IfSome_then old (
    front_says (λ w. after_words w.files (Some (Trial c.in-Trial.n))) (λ w. part_after_words w.files (Some (Trial c.in-Trial.n))) (trial_text c.in-Trial.n) old old new (λ w. words-zero w.files (Some (Trial c.in-Trial.n))) refl
    (always old (λ w. refl)) (always old (λ w. refl)) says) (λ w ends.
    subst (λ (words : Words). EndsAfter w.files (Some words) (shown_of w) new) (sym c.in-Trial.is) (ends_after w.files (Some (Trial c.in-Trial.n)) (shown_of w) new refl refl ends))) c.try_number.ensures.part

pub returns-in-Show-clause-front : goal.returns-in-Show-clause-front
returns-in-Show-clause-front g c =
    let new = g.D.Desk.told c.show_capture.new.desk in
    on_err_weaker c.show_capture.result (λ ends. IfSome_then (g.D.Desk.told c.args.desk.now) ends (λ w front.
    subst (λ (words : Words). EndsAfter w.files (Some words) (shown_of w) new) (sym c.in-Show.is) (ends_after w.files (Some (Show c.in-Show.input)) (shown_of w) new refl refl (rw c.as_str.ensures at front)))) c.show_capture.ensures.front

pub returns-in-Show-clause-answer : goal.returns-in-Show-clause-answer
returns-in-Show-clause-answer g c =
    let new = shown (g.D.Desk.told c.show_capture.new.desk) in
    IfOk-weaker c.show_capture.result _ _ (λ s answered. IfSome_then (g.D.Desk.told c.args.desk.now) answered (λ w gives.
    subst (λ (words : Words). GivesAfter w.files (Some words) s (shown_of w) new) (sym c.in-Show.is) (by_plain w.files (Show c.in-Show.input) s (shown_of w) new (λ ns. refl) refl (rw c.as_str.ensures at gives)))) c.show_capture.ensures.answer

pub returns-in-Audit-clause-answer : goal.returns-in-Audit-clause-answer
returns-in-Audit-clause-answer g c =
    let new = shown (g.D.Desk.told c.audit_capture.new.desk) in
    let words = Audit c.in-Audit.settings c.in-Audit.input c.in-Audit.sent c.in-Audit.nonces in
    IfOk-weaker c.audit_capture.result _ _ (λ s answered. IfSome_then (g.D.Desk.told c.args.desk.now) answered (λ w gives.
    subst (λ (words : Words). GivesAfter w.files (Some words) s (shown_of w) new) (sym c.in-Audit.is)
    (by_plain w.files words s (shown_of w) new (λ ns. refl) refl (rw (c.as_str-settings-in-Audit.ensures, c.as_str-input-in-Audit.ensures, c.as_str-sent.ensures) at gives)))) c.audit_capture.ensures.answer

pub returns-in-Audit-clause-front : goal.returns-in-Audit-clause-front
returns-in-Audit-clause-front g c =
    let new = g.D.Desk.told c.audit_capture.new.desk in
    let words = Audit c.in-Audit.settings c.in-Audit.input c.in-Audit.sent c.in-Audit.nonces in
    on_err_weaker c.audit_capture.result (λ ends. IfSome_then (g.D.Desk.told c.args.desk.now) ends (λ w front.
    subst (λ (words : Words). EndsAfter w.files (Some words) (shown_of w) new) (sym c.in-Audit.is)
    (ends_after w.files (Some words) (shown_of w) new refl refl (rw (c.as_str-settings-in-Audit.ensures, c.as_str-input-in-Audit.ensures, c.as_str-sent.ensures) at front)))) c.audit_capture.ensures.front

pub returns-in-Audit-clause-steady : goal.returns-in-Audit-clause-steady
returns-in-Audit-clause-steady g c =
    let told = g.D.Desk.told c.args.desk.now in
    subst (λ (words : Words). StaysSteady (g.D.Desk.steady c.args.desk.now) (g.D.Desk.steady c.audit_capture.new.desk) (AreThere (Some words) told) (IsErrOf c.audit_capture.result Failed)) (sym c.in-Audit.is)
    (rw (c.as_str-settings-in-Audit.ensures, c.as_str-input-in-Audit.ensures, c.as_str-sent.ensures) at c.audit_capture.ensures.steady)

pub returns-in-Replay-clause-steady : goal.returns-in-Replay-clause-steady
returns-in-Replay-clause-steady g c =
    let told = g.D.Desk.told c.args.desk.now in
    subst (λ (words : Words). StaysSteady (g.D.Desk.steady c.args.desk.now) (g.D.Desk.steady c.replay_capture.new.desk) (AreThere (Some words) told) (IsErrOf c.replay_capture.result Failed)) (sym c.in-Replay.is)
    (rw (c.as_str-settings.ensures, c.as_str-input.ensures) at c.replay_capture.ensures.steady)
