use Rattle.ip_headers.proofs.OneValue.{one_udp_header}
use Rattle.ip_headers.proofs.laws.one_udp_header_is_spelled.Goals as goal

pub returns-clause-one : goal.returns-clause-one
returns-clause-one c octets a b s t place = one_udp_header octets a b s t place
