use Rattle.std.proofs.Common.{arith}
use Rattle.decap.proofs.OpenRules.{payload_room}
use Rattle.router_core.proofs.table.Table.hear_datagram.Goals as goal

pub overflow_add-place : goal.overflow_add-place
overflow_add-place c = omega (arith, payload_room c.args.datagram.now.packet c.args.datagram.now.udp c.args.datagram.now.read)

pub overflow_add-place-in-Ok : goal.overflow_add-place-in-Ok
overflow_add-place-in-Ok c = omega (arith, payload_room c.args.datagram.now.packet c.args.datagram.now.udp c.args.datagram.now.read)

pub hear_payload-requires-clause-place : goal.hear_payload-requires-clause-place
hear_payload-requires-clause-place c = rw c.udp_payload-payload.ensures (payload_room c.args.datagram.now.packet c.args.datagram.now.udp c.args.datagram.now.read)
