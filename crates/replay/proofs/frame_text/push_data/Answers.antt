use Rattle.std.proofs.Common.{arith}
use Rattle.decap.proofs.OpenRules.{payload_room}
use Rattle.replay.proofs.frame_text.push_data.Goals as goal

pub overflow_add-packet : goal.overflow_add-packet
overflow_add-packet c = omega (arith, payload_room c.args.datagram.now.packet c.args.datagram.now.udp c.args.datagram.now.read)

pub overflow_add-packet-2 : goal.overflow_add-packet-2
overflow_add-packet-2 c = omega (arith, payload_room c.args.datagram.now.packet c.args.datagram.now.udp c.args.datagram.now.read)

pub read_header-requires : goal.read_header-requires
read_header-requires c = rw c.udp_payload-payload.ensures (payload_room c.args.datagram.now.packet c.args.datagram.now.udp c.args.datagram.now.read)
