use Rattle.std.proofs.Common.{◌-◌, length}
use Rattle.named_list.specs.Limits.{ring_names}
use Rattle.named_list.proofs.ChainLemmas.{Pushed}
use Rattle.named_list.proofs.rings.push_on.Given as goal

abbrev pub invariant-loop-ring : goal.invariant-loop-ring
invariant-loop-ring l = Pushed ring_names l.initial.heads l.initial.slots l.heads l.slots l.fn.name l.carried l.ring

abbrev pub decreases-loop-ring : goal.decreases-loop-ring
decreases-loop-ring l = length l.initial.heads - l.ring
