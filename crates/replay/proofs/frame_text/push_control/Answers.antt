use Rattle.std.proofs.Common.{◌∙◌, ◌++◌, ℕ, List, ap, arith}
use Rattle.std.proofs.lemmas.Result.{on_ok_weaker}
use Rattle.decap.proofs.OpenRules.{payload_room}
use Rattle.router_core.specs.Seen.{packet_seen}
use Rattle.replay.proofs.MessageLemmas.{control_text-message}
use Rattle.replay.proofs.frame_text.push_control.Goals as goal

pub overflow_add-packet : goal.overflow_add-packet
overflow_add-packet c = omega (arith, payload_room c.args.datagram.now.packet c.args.datagram.now.udp c.args.datagram.now.read)

pub overflow_add-packet-2 : goal.overflow_add-packet-2
overflow_add-packet-2 c = omega (arith, payload_room c.args.datagram.now.packet c.args.datagram.now.udp c.args.datagram.now.read)

pub read_message-requires : goal.read_message-requires
read_message-requires c = rw c.udp_payload-payload.ensures (payload_room c.args.datagram.now.packet c.args.datagram.now.udp c.args.datagram.now.read)

pub returns-in-Ok : goal.returns-in-Ok
returns-in-Ok c =
    let packet = packet_seen c.args.datagram.now.packet in
    let udp = c.args.datagram.now.udp in
    let payload = c.udp_payload-payload.ensures in
    let rules = rw payload at c.in-Ok.ensures.refused in
    let value = rw payload at c.in-Ok.ensures.value in
    let size = rw payload at c.in-Ok.ensures.left in
    let text = control_text-message packet udp c.in-Ok.message c.in-Ok.left c.in_default.ensures rules value size in
    on_ok_weaker c.push_message.result (λ is. is ∙ ap (λ (lines : List ℕ). c.args.out.now ++ lines) text) c.push_message.ensures
