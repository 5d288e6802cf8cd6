use Rattle.std.proofs.Common.{length}
use Rattle.router_core.proofs.answering.+first_path.Given as goal

abbrev pub decreases-first_path : goal.decreases-first_path
decreases-first_path l = length l.addrs.now
