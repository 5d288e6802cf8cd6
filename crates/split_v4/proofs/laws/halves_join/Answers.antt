use Rattle.split_v4.proofs.JoinLemmas.{halves-join}
use Rattle.split_v4.proofs.laws.halves_join.Goals as goal

pub returns : goal.returns
returns c settings base packet is may = halves-join settings base packet is may
