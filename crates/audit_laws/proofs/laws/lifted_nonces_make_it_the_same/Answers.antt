use Rattle.audit_laws.proofs.LiftedLemmas.{lifted-same}
use Rattle.audit_laws.proofs.laws.lifted_nonces_make_it_the_same.Goals as goal

pub returns : goal.returns
returns c = lifted-same
