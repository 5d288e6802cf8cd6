use Rattle.ip_headers.proofs.OneValue.{spells-canonical_v4}
use Rattle.ip_headers.proofs.Spelled.{ones_sum-canonical_v4}
use Rattle.ip_headers.proofs.laws.canonical_v4_spells.Goals as goal

pub returns-clause-spells : goal.returns-clause-spells
returns-clause-spells c h rest range = spells-canonical_v4 h rest range

pub returns-clause-sum : goal.returns-clause-sum
returns-clause-sum c h range = ones_sum-canonical_v4 h range
