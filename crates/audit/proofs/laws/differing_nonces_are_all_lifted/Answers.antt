use Rattle.std.proofs.Common.{filter_map}
use Rattle.audit.specs.Limits.{most_lifted}
use Rattle.audit.specs.Requests.{sent_nonce}
use Rattle.audit.proofs.LiftLemmas.{distinct-lifted}
use Rattle.audit.proofs.laws.differing_nonces_are_all_lifted.Goals as goal

pub returns : goal.returns
returns c settings frames apart few = distinct-lifted most_lifted (filter_map (sent_nonce settings) frames) apart few
