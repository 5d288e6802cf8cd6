use Rattle.audit_laws.specs.Sent.{sent_packets}
use Rattle.audit_laws.proofs.PlayLemmas.{plain-sent}
use Rattle.audit_laws.proofs.WrittenLemmas.{written-frames}
use Rattle.audit_laws.proofs.laws.sent_packets_are_read.Goals as goal

pub returns : goal.returns
returns c = λ settings frames lawful read later none. written-frames (sent_packets settings frames) (plain-sent settings frames lawful read later) none
