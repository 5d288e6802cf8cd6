use Rattle.std.proofs.Common.{◌≤◌, length, true, false, None, sym, subst, arith}
use Rattle.map_messages.specs.Message.{canonical_message}
use Rattle.map_messages.specs.Range.{InRange}
use Rattle.map_messages.specs.declared.message.Message.{Message}
use Rattle.router_core.proofs.WritableLemmas.{request-range, request-short}
use Rattle.router_core.proofs.emitting.probe_octets.Goals as goal

pub packet_to-requires-clause-range : goal.packet_to-requires-clause-range
packet_to-requires-clause-range c =
    subst InRange (sym c.in_ok-message.ensures) (request-range c.args.site.now c.requires.lawful true false false c.args.nonce None c.args.eid c.args.to tt c.requires.sender)

pub packet_to-requires-clause-short : goal.packet_to-requires-clause-short
packet_to-requires-clause-short c =
    subst (λ (message : Message). length (canonical_message message) ≤ 65000) (sym c.in_ok-message.ensures)
    (omega (arith, request-short c.args.site.now c.requires.lawful true false false c.args.nonce None c.args.eid))
