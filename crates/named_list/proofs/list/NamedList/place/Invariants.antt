use Rattle.std.proofs.Common.{◌-◌}
use Rattle.std.specs.Fn.{FnReturnsAt}
use Rattle.named_list.proofs.PlaceLemmas.{Halving}
use Rattle.named_list.proofs.list.NamedList.place.Given as goal

abbrev pub invariant-loop-low : goal.invariant-loop-low
invariant-loop-low g l =
    Halving (FnReturnsAt g.F.Fn l.fn.is_below) l.self.items l.low l.high

abbrev pub decreases-loop-low : goal.decreases-loop-low
decreases-loop-low g l = l.high - l.low
