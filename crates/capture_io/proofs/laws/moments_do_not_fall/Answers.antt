use Rattle.capture_io.proofs.MomentLemmas.{frames-early}
use Rattle.capture_io.proofs.OctetLemmas.{frames-octets}
use Rattle.capture_io.proofs.OrderLemmas.{frames-few, frames-later}
use Rattle.capture_io.proofs.laws.moments_do_not_fall.Goals as goal

pub returns-clause-later : goal.returns-clause-later
returns-clause-later c = frames-later

pub returns-clause-few : goal.returns-clause-few
returns-clause-few c = frames-few

pub returns-clause-early : goal.returns-clause-early
returns-clause-early c = frames-early

pub returns-clause-octets : goal.returns-clause-octets
returns-clause-octets c = frames-octets
