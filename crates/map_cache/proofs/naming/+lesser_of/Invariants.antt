use Rattle.std.proofs.Common.{length}
use Rattle.map_cache.proofs.naming.+lesser_of.Given as goal

abbrev pub decreases-lesser_of : goal.decreases-lesser_of
decreases-lesser_of l = length l.locators.now
