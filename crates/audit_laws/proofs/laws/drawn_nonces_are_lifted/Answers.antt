use Rattle.audit_laws.proofs.LiftedLemmas.{sent-lifted, written-lifted}
use Rattle.audit_laws.proofs.laws.drawn_nonces_are_lifted.Goals as goal

pub returns : goal.returns
returns c = record { sent = sent-lifted; written = written-lifted }
