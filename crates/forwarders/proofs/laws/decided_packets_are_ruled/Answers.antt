use Rattle.forwarders.proofs.RulingLemmas.{decided-are-ruled}
use Rattle.forwarders.proofs.laws.decided_packets_are_ruled.Goals as goal

pub returns : goal.returns
returns c = decided-are-ruled
