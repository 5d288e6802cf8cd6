use Rattle.audit.proofs.PacketLemmas.{record_packet-raw}
use Rattle.audit.proofs.laws.raw_packets_are_whole.Goals as goal

pub returns : goal.returns
returns c frame raw is = record_packet-raw frame raw is
