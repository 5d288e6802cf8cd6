use Rattle.command_words.specs.declared.intake.InputFormat.TheVariants.{Classic}
use Rattle.desk.specs.World.{World, content}
use Rattle.replay.specs.Opening.{opened}
use Rattle.replay.proofs.AuditLemmas.{lifts-from}
use Rattle.replay.proofs.comparing.lift_from.Goals as goal

pub returns-in-Ok-2-clause-lifted : goal.returns-in-Ok-2-clause-lifted
returns-in-Ok-2-clause-lifted g c =
    lifts-from c.args.settings.now (λ (w : World). opened Classic (content c.args.sent.now w.files)) c.in-Ok.records c.in-Ok-2.nonces (g.D.Desk.told c.args.desk.now) (g.D.Desk.told c.open_classic.new.desk)
    (rw c.in-Ok.is at c.in_ok-records.ensures.opened) (rw c.in-Ok-2.is at c.in_ok-nonces-in-Ok.ensures.lifted)
