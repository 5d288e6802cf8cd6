use Rattle.mapping_records.proofs.EidLemmas.{canonical_spells}
use Rattle.mapping_records.proofs.laws.canonical_eid_spells.Goals as goal

pub returns : goal.returns
returns c iid host rest range = canonical_spells iid host rest range
