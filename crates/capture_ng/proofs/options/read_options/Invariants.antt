use Rattle.std.proofs.Common.{◌≡◌, ◌<◌, length}
use Rattle.capture_ng.specs.Interfaces.{clock_on, plain_clock}
use Rattle.capture_ng.proofs.options.read_options.Given as goal

abbrev pub invariant-loop-rest : goal.invariant-loop-rest
invariant-loop-rest l = (clock_on l.order plain_clock l.initial.rest ≡ clock_on l.order l.clock l.rest) × (0 < l.clock.units)

abbrev pub decreases-loop-rest : goal.decreases-loop-rest
decreases-loop-rest l = length l.rest
