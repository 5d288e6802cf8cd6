use Rattle.std.proofs.Common.{length}
use Rattle.router_core.proofs.site.+up_bits.Given as goal

abbrev pub decreases-up_bits : goal.decreases-up_bits
decreases-up_bits l = length l.locators.now
