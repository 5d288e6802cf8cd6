use Rattle.encap.proofs.Hops.{hop}
use Rattle.encap.proofs.laws.forwarded_goes_one_hop.Goals as goal

pub returns : goal.returns
returns c base packet is_packet alive = hop base packet is_packet alive
