use Rattle.std.proofs.Common.{◌-◌}
use Rattle.prefix_table.proofs.removal.+take_under.Given as goal

abbrev pub decreases-take_under : goal.decreases-take_under
decreases-take_under g l = 129 - l.least
