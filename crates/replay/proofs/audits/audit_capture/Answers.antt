use Rattle.std.proofs.Common.{ap, sym}
use Rattle.std.specs.Prelude.{refl}
use Rattle.std.proofs.lemmas.Option.{IfSome_then}
use Rattle.desk.specs.World.{World, content}
use Rattle.lisp_settings.specs.Settings.{settings_of}
use Rattle.playback.proofs.FrontLemmas.{on_err_always}
use Rattle.replay.specs.Answer.{after_finding}
use Rattle.replay.specs.Audit.{finding_at, finding_line}
use Rattle.replay.specs.Front.{no_part}
use Rattle.replay.proofs.FrontCases.{always, front_says, front_still}
use Rattle.replay.proofs.audits.audit_capture.Goals as goal

pub returns-in_err-finding-clause-front : goal.returns-in_err-finding-clause-front
returns-in_err-finding-clause-front g c =
    on_err_always c.from_residual.result
    (front_still (λ (w : World). after_finding (finding_at c.args.captures.now w.files (settings_of (content c.args.settings.now w.files)))) (λ (w : World). no_part)
    (g.D.Desk.told c.args.desk.now) (g.D.Desk.told c.find.new.desk) (λ w. refl) c.in_err-finding.ensures.shown)

pub returns-in_err-line-clause-front : goal.returns-in_err-line-clause-front
returns-in_err-line-clause-front g c =
    on_err_always c.from_residual-in_err-line.result
    (front_still (λ (w : World). after_finding (finding_at c.args.captures.now w.files (settings_of (content c.args.settings.now w.files)))) (λ (w : World). no_part)
    (g.D.Desk.told c.args.desk.now) (g.D.Desk.told c.find.new.desk) (λ w. refl) c.in_ok-finding.ensures.shown)

pub returns-in_err-say-clause-front : goal.returns-in_err-say-clause-front
returns-in_err-say-clause-front g c =
    on_err_always c.from_residual-in_err-say.result
    (front_says (λ (w : World). after_finding (finding_at c.args.captures.now w.files (settings_of (content c.args.settings.now w.files)))) (λ (w : World). no_part)
    (finding_line c.in_ok-finding.finding) (g.D.Desk.told c.args.desk.now) (g.D.Desk.told c.find.new.desk) (g.D.Desk.told c.say.new.self) (λ w. refl) c.in_ok-finding.ensures.shown
    (IfSome_then (g.D.Desk.told c.args.desk.now) c.in_ok-finding.ensures.found (λ w is. ap finding_line (sym is))) (always (g.D.Desk.told c.args.desk.now) (λ w. refl)) (rw (c.as_slice.ensures, c.in_ok-line.ensures) at c.in_err-say.ensures.err))
