use Rattle.std.proofs.Common.{length}
use Rattle.desk.proofs.shelf.+last_made.Given as goal

abbrev pub decreases-last_made : goal.decreases-last_made
decreases-last_made l = length l.slots.now
