use Rattle.ip_headers.proofs.OneValue.{spells-canonical_udp, spells-canonical_udp_header}
use Rattle.ip_headers.proofs.UdpReadAgain.{udp_sum-canonical}
use Rattle.ip_headers.proofs.laws.canonical_udp_spells.Goals as goal

pub returns-clause-header : goal.returns-clause-header
returns-clause-header c udp rest range = spells-canonical_udp_header udp rest range

pub returns-clause-datagram : goal.returns-clause-datagram
returns-clause-datagram c from to source dest at payload summed rest s d size = spells-canonical_udp from to source dest at payload summed rest s d size

pub returns-clause-sum : goal.returns-clause-sum
returns-clause-sum c from to source dest payload octets = udp_sum-canonical from to source dest payload octets
