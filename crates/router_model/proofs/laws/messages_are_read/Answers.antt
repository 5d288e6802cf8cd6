use Rattle.router_model.proofs.ReceivedLemmas.{message_in_is}
use Rattle.router_model.proofs.laws.messages_are_read.Goals as goal

pub returns : goal.returns
returns c octets message is = message_in_is octets message is
