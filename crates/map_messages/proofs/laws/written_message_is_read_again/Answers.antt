use Rattle.map_messages.proofs.MessageLaws.{written_left, written_message, written_value}
use Rattle.map_messages.proofs.laws.written_message_is_read_again.Goals as goal

pub returns-clause-rules : goal.returns-clause-rules
returns-clause-rules c base message rest lawful = (written_message message rest lawful).pass base

pub returns-clause-value : goal.returns-clause-value
returns-clause-value c message read rest lawful at = written_value message read rest lawful at

pub returns-clause-left : goal.returns-clause-left
returns-clause-left c message rest lawful = written_left message rest lawful
