use Rattle.std.proofs.Common.{◌-◌}
use Rattle.prefix_table.proofs.insert.+put_under.Given as goal

abbrev pub decreases-put_under : goal.decreases-put_under
decreases-put_under g l = 129 - l.least
