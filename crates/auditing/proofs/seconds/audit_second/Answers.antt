use Rattle.capture_events.specs.Events.{Happens, Tick}
use Rattle.auditing.proofs.StepLemmas.{step-proceeds}
use Rattle.auditing.proofs.seconds.audit_second.Goals as goal

pub returns-clause-proceeds : goal.returns-clause-proceeds
returns-clause-proceeds g c =
    step-proceeds g.M.Machine.Does (Happens (Tick c.args.second)) (g.M.Machine.state c.args.machine.now) (g.M.Machine.state c.tick.new.self) c.args.output.now c.tick.new.output c.args.holding.now c.expect_output.new.self
    (g.D.Desk.told c.args.desk.now) (g.D.Desk.told c.expect_output.new.desk) c.expect_output.result c.requires.records c.in_ok-tick.ensures.gathers c.expect_output.ensures.holds
