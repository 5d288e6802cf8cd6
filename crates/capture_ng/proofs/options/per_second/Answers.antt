use Rattle.std.proofs.Common.{arith}
use Rattle.capture_ng.proofs.OptionLemmas.{ten_some}
use Rattle.capture_ng.proofs.options.per_second.Goals as goal

pub returns-then-x-lt128-clause-some : goal.returns-then-x-lt128-clause-some
returns-then-x-lt128-clause-some c = omega (arith, c.pow.ensures, ten_some c.from.result)
