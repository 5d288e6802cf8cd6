use Rattle.router_model.specs.Decide.{decide_by}
use Rattle.router_model.specs.Standing.{standing}
use Rattle.audit_laws.proofs.DecideLemmas.{decided-sends, sends-packet}
use Rattle.audit_laws.proofs.EmitLemmas.{emit-whole}
use Rattle.audit_laws.proofs.PlayLemmas.{plain-packets, plain-whole}
use Rattle.audit_laws.proofs.StandLemmas.{lawful-site, site-stands}
use Rattle.audit_laws.proofs.laws.sent_packets_are_packets.Goals as goal

pub returns : goal.returns
returns c = record {
  decision = λ settings v frame are. sends-packet settings (decide_by settings v frame).verdict (decided-sends settings v frame are);
  emit = λ settings emit lawful made. emit-whole settings emit (lawful-site settings lawful) made;
  stands = λ settings journal emit lawful made. emit-whole (standing settings journal) emit (site-stands settings journal lawful) made;
  all = plain-whole;
  octets = λ settings frames lawful range read later. plain-packets settings frames lawful read later range.locators;
}
