use Rattle.map_messages.proofs.MessageLaws.{message_is_spelled, one_message, some_message}
use Rattle.map_messages.proofs.laws.one_message_is_spelled.Goals as goal

pub returns-clause-some : goal.returns-clause-some
returns-clause-some c base octets none = some_message base octets none

pub returns-clause-spells : goal.returns-clause-spells
returns-clause-spells c base octets message none at = message_is_spelled base octets message none at

pub returns-clause-one : goal.returns-clause-one
returns-clause-one c octets a b m n s t = one_message octets a b m n s t
