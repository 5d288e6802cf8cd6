use Rattle.std.proofs.Common.{◌≡◌, ◌∷◌, [], List, ap}
use Rattle.capture_io.specs.Frame.{Frame}
use Rattle.capture_events.specs.Events.{Arrival, Happens, Step, events_of, steps_of, ticks}
use Rattle.playback.proofs.FrontLemmas.{frame-steps}
use Rattle.auditing.proofs.StepLemmas.{proceeds-on, step-proceeds}
use Rattle.auditing.proofs.playing.audit_frame.Goals as goal

pub take-requires-clause-ready : goal.take-requires-clause-ready
take-requires-clause-ready g c =
    let by = c.in_ok-audit_seconds.ensures.ready in
    let moment : c.frame.inside.moment ≡ c.args.frame.moment = ap (λ (x : Frame). x.moment) c.frame.view_is in
    record { progress = by.progress; ready = by.ready; next = rw by.frames_are c.requires.next; later = rw moment at by.later }

pub returns-clause-proceeds : goal.returns-clause-proceeds
returns-clause-proceeds g c =
    let does = g.M.Machine.Does in
    let frame = c.args.frame in
    let at = c.args.progress.moment in
    let moment : c.frame.inside.moment ≡ frame.moment = ap (λ (x : Frame). x.moment) c.frame.view_is in
    let before = g.M.Machine.state c.args.machine.now in
    let mid = g.M.Machine.state c.audit_seconds.new.machine in
    let after = g.M.Machine.state c.take.new.self in
    let seconds : List Step = steps_of (ticks at frame.moment) in
    let one : List Step = Happens (Arrival frame) ∷ [] in
    let told = g.D.Desk.told c.args.desk.now in
    let then = g.D.Desk.told c.audit_seconds.new.desk in
    let now = g.D.Desk.told c.expect_output.new.desk in
    let held = step-proceeds does (Happens (Arrival frame)) mid after c.audit_seconds.new.output c.take.new.output c.audit_seconds.new.holding c.expect_output.new.self then now c.expect_output.result
    c.in_ok-audit_seconds.ensures.records c.in_ok-take.ensures.gathers c.expect_output.ensures.holds in
    proceeds-on does before mid after seconds one (steps_of (events_of at frame)) c.args.holding.now c.audit_seconds.new.holding c.expect_output.new.self told then now c.expect_output.result
    (λ past. frame-steps past at frame) (rw moment at c.in_ok-audit_seconds.ensures.proceeds) held
