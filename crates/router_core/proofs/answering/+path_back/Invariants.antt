use Rattle.std.proofs.Common.{length}
use Rattle.router_core.proofs.answering.+path_back.Given as goal

abbrev pub decreases-path_back : goal.decreases-path_back
decreases-path_back l = length l.addrs.now
