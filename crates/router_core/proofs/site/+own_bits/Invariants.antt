use Rattle.std.proofs.Common.{length}
use Rattle.router_core.proofs.site.+own_bits.Given as goal

abbrev pub decreases-own_bits : goal.decreases-own_bits
decreases-own_bits l = length l.locators.now
