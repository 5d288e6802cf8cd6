use Rattle.std.proofs.Common.{arith}
use Rattle.desk.proofs.HostLemmas.{given-fresh}
use Rattle.desk.proofs.host.HostDesk.give.Goals as goal

pub returns-in_ok-push-in-Ok-clause-fresh : goal.returns-in_ok-push-in-Ok-clause-fresh
returns-in_ok-push-in-Ok-clause-fresh g c =
    record { given = given-fresh c.args.self.now.files.items c.in-Ok.number (omega (arith, c.in-Ok.ensures, c.len.ensures)); reader = tt; writer = tt }
