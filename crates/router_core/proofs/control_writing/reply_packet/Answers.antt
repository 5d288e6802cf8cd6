use Rattle.std.proofs.Common.{◌∙◌, ◌++◌, ℕ, List, ap}
use Rattle.std.proofs.lemmas.Result.{IfOk-weaker}
use Rattle.map_messages.specs.Reply.{canonical_reply}
use Rattle.router_model.specs.Emits.{message_packet}
use Rattle.router_core.proofs.control_writing.reply_packet.Goals as goal

pub returns-clause-octets : goal.returns-clause-octets
returns-clause-octets c =
    let written = c.as_slice.ensures ∙ c.in_ok-write_reply.ensures ∙ ap (λ (out : List ℕ). out ++ canonical_reply c.args.reply.now) c.in_ok-payload.ensures in
    IfOk-weaker c.datagram_packet.result _ _ (λ packet is. is ∙ ap (message_packet c.args.from c.args.to c.args.port) written) c.datagram_packet.ensures.octets
