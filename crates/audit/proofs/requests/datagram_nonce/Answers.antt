use Rattle.std.proofs.Common.{arith}
use Rattle.map_messages.proofs.DatagramLemmas.{payload_room}
use Rattle.audit.proofs.requests.datagram_nonce.Goals as goal

pub overflow_add-packet : goal.overflow_add-packet
overflow_add-packet c = omega (arith, payload_room c.args.datagram.now.packet c.args.datagram.now.udp c.args.datagram.now.read)

pub overflow_add-packet-in-Ok : goal.overflow_add-packet-in-Ok
overflow_add-packet-in-Ok c = omega (arith, payload_room c.args.datagram.now.packet c.args.datagram.now.udp c.args.datagram.now.read)

pub message_nonce-requires : goal.message_nonce-requires
message_nonce-requires c = rw c.udp_payload.ensures (payload_room c.args.datagram.now.packet c.args.datagram.now.udp c.args.datagram.now.read)
