use Rattle.mapping_records.proofs.EidLemmas.{written_is_read}
use Rattle.mapping_records.proofs.laws.written_eid_is_read_again.Goals as goal

pub returns-clause-rules : goal.returns-clause-rules
returns-clause-rules c base iid host rest range = (written_is_read base iid host rest range).rules

pub returns-clause-value : goal.returns-clause-value
returns-clause-value c iid host rest range = (written_is_read 0 iid host rest range).value
