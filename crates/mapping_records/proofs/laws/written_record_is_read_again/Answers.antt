use Rattle.mapping_records.proofs.WrittenRecord.{written_record, written_value}
use Rattle.mapping_records.proofs.laws.written_record_is_read_again.Goals as goal

pub returns-clause-rules : goal.returns-clause-rules
returns-clause-rules c base mapping rest lawful = (written_record base mapping rest lawful).rules

pub returns-clause-value : goal.returns-clause-value
returns-clause-value c mapping read rest lawful at = written_value mapping read rest lawful at

pub returns-clause-size : goal.returns-clause-size
returns-clause-size c mapping rest lawful = (written_record 0 mapping rest lawful).end
