use Rattle.std.proofs.Common.{length}
use Rattle.router_core.proofs.answering.+add_hits.Given as goal

abbrev pub decreases-add_hits : goal.decreases-add_hits
decreases-add_hits l = length l.eids.now
