use Rattle.mapping_records.proofs.WrittenRecord.{record_spells}
use Rattle.mapping_records.proofs.laws.canonical_record_spells.Goals as goal

pub returns : goal.returns
returns c mapping rest lawful = record_spells mapping rest lawful
