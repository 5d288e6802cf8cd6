use Rattle.mapping_records.proofs.WholeRecord.{one_record, record_is_spelled, some_record}
use Rattle.mapping_records.proofs.laws.one_record_is_spelled.Goals as goal

pub returns-clause-some : goal.returns-clause-some
returns-clause-some c base octets none = some_record base octets none

pub returns-clause-spells : goal.returns-clause-spells
returns-clause-spells c base octets mapping none at = record_is_spelled base octets mapping none at

pub returns-clause-one : goal.returns-clause-one
returns-clause-one c octets a b m n s t = one_record octets a b m n s t
