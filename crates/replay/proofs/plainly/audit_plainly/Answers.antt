use Rattle.std.proofs.lemmas.Option.{IfSome_then}
use Rattle.std.proofs.lemmas.Result.{IfOk-weaker}
use Rattle.auditing.specs.Auditing.{run_in}
use Rattle.replay.proofs.AuditLemmas.{audits-as}
use Rattle.replay.proofs.ReplayLemmas.{ready-first}
use Rattle.replay.proofs.plainly.audit_plainly.Goals as goal

pub audit_frames-audited-requires-clause-ready : goal.audit_frames-audited-requires-clause-ready
audit_frames-audited-requires-clause-ready g c = ready-first c.args.settings.now c.in_ok-table.table.parts c.requires.lawful c.in_ok-table.ensures.parts

pub returns-clause-audited : goal.returns-clause-audited
returns-clause-audited g c =
    IfOk-weaker c.audit_frames-audited.result _ _ (λ audited is. IfSome_then (g.D.Desk.told c.args.desk.now) is (λ w h.
    audits-as c.args.settings.now c.in_ok-table.table.parts (run_in c.args.input w) (run_in c.args.sent w) audited c.requires.lawful c.in_ok-table.ensures.parts h)) c.audit_frames-audited.ensures.audited
