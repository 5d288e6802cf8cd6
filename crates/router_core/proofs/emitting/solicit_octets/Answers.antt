use Rattle.std.proofs.Common.{◌≤◌, length, true, false, Some, sym, subst, arith}
use Rattle.map_messages.specs.Message.{canonical_message}
use Rattle.map_messages.specs.Range.{InRange}
use Rattle.map_messages.specs.declared.message.Message.{Message}
use Rattle.router_model.specs.Emits.{source_eid}
use Rattle.router_core.proofs.WritableLemmas.{request-range, request-short, source_eid-range}
use Rattle.router_core.proofs.emitting.solicit_octets.Goals as goal

pub packet_to-requires-clause-range : goal.packet_to-requires-clause-range
packet_to-requires-clause-range c =
    subst InRange (sym c.in_ok-message.ensures) (request-range c.args.site.now c.requires.lawful false true false c.args.nonce (source_eid c.args.eid (Some c.args.eid.prefix.addr)) c.args.eid c.args.to (source_eid-range c.args.eid (Some c.args.eid.prefix.addr)) c.requires.sender)

pub packet_to-requires-clause-short : goal.packet_to-requires-clause-short
packet_to-requires-clause-short c =
    subst (λ (message : Message). length (canonical_message message) ≤ 65000) (sym c.in_ok-message.ensures)
    (omega (arith, request-short c.args.site.now c.requires.lawful false true false c.args.nonce (source_eid c.args.eid (Some c.args.eid.prefix.addr)) c.args.eid))
