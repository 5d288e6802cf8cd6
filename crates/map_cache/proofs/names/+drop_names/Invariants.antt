use Rattle.std.proofs.Common.{length}
use Rattle.map_cache.proofs.names.+drop_names.Given as goal

abbrev pub decreases-drop_names : goal.decreases-drop_names
decreases-drop_names l = length l.locators.now
