use Rattle.ip_headers.proofs.OneValue.{one_header, spelled}
use Rattle.ip_headers.proofs.laws.one_header_is_spelled.Goals as goal

pub returns-clause-spells : goal.returns-clause-spells
returns-clause-spells c base octets none = spelled base octets none

pub returns-clause-one : goal.returns-clause-one
returns-clause-one c octets a b s t = one_header octets a b s t
