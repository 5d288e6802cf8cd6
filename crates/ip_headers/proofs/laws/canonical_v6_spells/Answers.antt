use Rattle.ip_headers.proofs.OneValue.{spells-canonical_v6}
use Rattle.ip_headers.proofs.laws.canonical_v6_spells.Goals as goal

pub returns : goal.returns
returns c h rest range = spells-canonical_v6 h rest range
