use Rattle.std.proofs.Common.{◌∙◌, ap, arith}
use Rattle.audit.specs.declared.outcome.Outcome.TheVariants.{Same}
use Rattle.audit.proofs.CompareLemmas.{equal-same, same-equal}
use Rattle.audit.proofs.laws.same_is_equal.Goals as goal

pub returns-clause-equal : goal.returns-clause-equal
returns-clause-equal c packets frames n is = same-equal 0 n packets frames is

pub returns-clause-same : goal.returns-clause-same
returns-clause-same c frames = equal-same 0 frames ∙ ap Same (omega arith)
