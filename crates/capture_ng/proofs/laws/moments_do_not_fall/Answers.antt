use Rattle.std.proofs.Common.{arith}
use Rattle.capture_ng.proofs.MomentLemmas.{frames-next}
use Rattle.capture_ng.proofs.OctetLemmas.{frames-octets}
use Rattle.capture_ng.proofs.laws.moments_do_not_fall.Goals as goal

pub returns-clause-later : goal.returns-clause-later
returns-clause-later c file vlans = (frames-next file vlans).later

pub returns-clause-few : goal.returns-clause-few
returns-clause-few c file vlans = let few = (frames-next file vlans).few in omega (arith, few)

pub returns-clause-early : goal.returns-clause-early
returns-clause-early c file vlans = (frames-next file vlans).early

pub returns-clause-octets : goal.returns-clause-octets
returns-clause-octets c = frames-octets
