use Rattle.std.proofs.Common.{◌≡◌, ◌∙◌, List, Result, ap, sym}
use Rattle.std.proofs.lemmas.Result.{IfOk-weaker}
use Rattle.capture_io.specs.Frame.{Frame}
use Rattle.command_words.specs.declared.intake.InputFormat.TheVariants.{Classic}
use Rattle.command_words.specs.declared.nonce_source.NonceSource.TheVariants.{Sent as FromSent}
use Rattle.desk.specs.World.{Shown, content}
use Rattle.desk.proofs.Reading.{IfSome_both}
use Rattle.playback.specs.declared.fault.InputFault.{InputFault}
use Rattle.replay.specs.Audit.{found, refused, whole}
use Rattle.replay.specs.Opening.{opened}
use Rattle.replay.proofs.AnswerCases.{shown_stays}
use Rattle.replay.proofs.AuditLemmas.{found-lifted-refused}
use Rattle.replay.proofs.audits.find_lifted.Goals as goal

pub returns-in-Err-clause-found : goal.returns-in-Err-clause-found
returns-in-Err-clause-found g c =
    let old = g.D.Desk.told c.args.desk.now in
    let settings = c.args.settings in
    let fault = c.in-Err.fault in
    IfOk-weaker c.refuse_sent.result _ _ (λ finding is.
    let moved = shown_stays (λ (o : Shown). finding ≡ refused (whole (opened Classic (content c.args.captures.now.input.now o.files))) fault) old (g.D.Desk.told c.lift_from.new.desk) c.in_ok-nonces.ensures.shown is in
    IfSome_both old (rw c.in-Err.is at c.in_ok-nonces.ensures.lifted) moved (λ w stops same.
    let input = whole (opened Classic (content c.args.captures.now.input.now w.files)) in
    same ∙ sym (found-lifted-refused settings input fault) ∙ ap (λ (r : Result (List Frame) InputFault). found FromSent settings input r) (sym stops))) c.refuse_sent.ensures.found
