use Rattle.std.proofs.Common.{◌≡◌, ◌∙◌, List, Result, ap, sym}
use Rattle.std.proofs.lemmas.Result.{IfOk-weaker}
use Rattle.capture_io.specs.Frame.{Frame}
use Rattle.command_words.specs.declared.intake.InputFormat.TheVariants.{Classic}
use Rattle.command_words.specs.declared.nonce_source.NonceSource.TheVariants.{Settings as FromSettings}
use Rattle.desk.specs.World.{Shown, content}
use Rattle.desk.proofs.Reading.{IfSome_both}
use Rattle.playback.specs.declared.fault.InputFault.{InputFault}
use Rattle.replay.specs.Audit.{found, found_in, refused, whole}
use Rattle.replay.specs.Opening.{opened}
use Rattle.replay.proofs.AnswerCases.{shown_stays}
use Rattle.replay.proofs.AuditLemmas.{found-opened, found-refused}
use Rattle.replay.proofs.comparing.compare.Goals as goal

pub returns-in-Err-clause-found : goal.returns-in-Err-clause-found
returns-in-Err-clause-found g c =
    let old = g.D.Desk.told c.args.desk.now in
    let settings = c.args.settings.now in
    let fault = c.in-Err.fault in
    IfOk-weaker c.refuse_sent.result _ _ (λ finding is.
    let moved = shown_stays (λ (o : Shown). finding ≡ refused (whole (opened Classic (content c.args.captures.now.input.now o.files))) fault) old (g.D.Desk.told c.open_classic.new.desk) c.in_ok-records.ensures.shown is in
    IfSome_both old (rw c.in-Err.is at c.in_ok-records.ensures.opened) moved (λ w stops same.
    let input = whole (opened Classic (content c.args.captures.now.input.now w.files)) in
    same ∙ sym (found-refused settings input fault) ∙ ap (λ (r : Result (List Frame) InputFault). found FromSettings settings input r) (sym (ap whole stops)))) c.refuse_sent.ensures.found

pub returns-in_ok-audited-in-Ok-clause-found : goal.returns-in_ok-audited-in-Ok-clause-found
returns-in_ok-audited-in-Ok-clause-found g c =
    let old = g.D.Desk.told c.args.desk.now in
    let input = c.args.captures.now.input.now in
    let audited = c.in_ok-audited-in-Ok.audited in
    let finds = found-opened c.args.settings.now input c.args.captures.now.sent.now c.args.reader c.in-Ok.records audited (g.D.Desk.given c.args.desk.now) (g.D.Desk.given c.open_classic.new.desk) old (g.D.Desk.told c.open_classic.new.desk)
    c.requires.unread (rw c.in-Ok.is at c.in_ok-records.ensures.opened) (rw c.in-Ok.is at c.in_ok-records.ensures.kept) c.in_ok-audited-in-Ok.ensures.audited in
    IfOk-weaker c.finding_of.result _ _ (λ finding is.
    let moved = shown_stays (λ (o : Shown). finding ≡ found_in (whole (opened Classic (content input o.files))) audited) old (g.D.Desk.told c.audit_plainly.new.desk) (c.in_ok-audited-in-Ok.ensures.shown ∙ c.in_ok-records.ensures.shown) is in
    IfSome_both old moved finds (λ w same finds_it. same ∙ finds_it)) c.finding_of.ensures.found
