use Rattle.audit_laws.proofs.LiftedLemmas.{own-same}
use Rattle.audit_laws.proofs.laws.own_output_is_the_same.Goals as goal

pub returns : goal.returns
returns c = own-same
