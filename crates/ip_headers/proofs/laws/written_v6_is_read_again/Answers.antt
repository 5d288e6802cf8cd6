use Rattle.ip_headers.proofs.ReadAgain.{header_at-canonical_v6, v6_obeys}
use Rattle.ip_headers.proofs.laws.written_v6_is_read_again.Goals as goal

pub returns-clause-rules : goal.returns-clause-rules
returns-clause-rules c base h rest range size = v6_obeys base h rest range size

pub returns-clause-header : goal.returns-clause-header
returns-clause-header c h rest range = header_at-canonical_v6 h rest range
