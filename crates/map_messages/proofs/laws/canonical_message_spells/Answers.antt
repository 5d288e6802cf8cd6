use Rattle.map_messages.proofs.MessageLaws.{message_spells}
use Rattle.map_messages.proofs.laws.canonical_message_spells.Goals as goal

pub returns : goal.returns
returns c message rest lawful = message_spells message rest lawful
