use Rattle.std.proofs.Common.{rules}
use Rattle.forwarders.proofs.RuleLemmas.{starts}
use Rattle.forwarders.proofs.door.opening.open_hall.Goals as goal

pub new-requires-clause-rule : goal.new-requires-clause-rule
new-requires-clause-rule g c = starts _ (search rules)
