use Rattle.split_v4.proofs.JoinLemmas.{first-part, second-part}
use Rattle.split_v4.proofs.laws.halves_are_packets.Goals as goal

pub returns-clause-first : goal.returns-clause-first
returns-clause-first c settings base packet is may = first-part settings base packet is may

pub returns-clause-second : goal.returns-clause-second
returns-clause-second c settings base packet is may = second-part settings base packet is may
