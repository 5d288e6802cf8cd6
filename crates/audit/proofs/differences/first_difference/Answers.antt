use Rattle.std.proofs.Common.{arith}
use Rattle.audit.proofs.DifferenceLemmas.{difference-sent}
use Rattle.audit.proofs.differences.first_difference.Goals as goal

pub returns-else-place-sent-clause-place : goal.returns-else-place-sent-clause-place
returns-else-place-sent-clause-place c =
    omega (arith, c.loop-place.invariant.same, difference-sent c.loop-place.place c.args.due.now c.args.sent.now (omega (arith, c.if-place-sent.false)))
