use Rattle.ip_headers.proofs.UdpReadAgain.{udp_at-canonical, udp_obeys}
use Rattle.ip_headers.proofs.laws.written_udp_is_read_again.Goals as goal

pub returns-clause-rules : goal.returns-clause-rules
returns-clause-rules c base from to source dest payload summed front rest size = udp_obeys base from to source dest payload summed front rest size

pub returns-clause-header : goal.returns-clause-header
returns-clause-header c from to source dest payload summed front rest s d size = udp_at-canonical from to source dest payload summed front rest s d size
