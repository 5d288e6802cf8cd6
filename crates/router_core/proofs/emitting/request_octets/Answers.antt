use Rattle.std.proofs.Common.{◌∙◌, ◌≤◌, length, false, Option, sym, subst, arith, ap, is_some}
use Rattle.std.proofs.lemmas.Result.{IfOk-weaker}
use Rattle.ip_headers.specs.declared.addr.Addr.{Addr}
use Rattle.map_messages.specs.Message.{canonical_message}
use Rattle.map_messages.specs.Range.{InRange}
use Rattle.map_messages.specs.declared.message.Message.{Message}
use Rattle.map_messages.specs.declared.message.Message.TheVariants.{Control}
use Rattle.router_model.specs.Emits.{ecm_for, emit_packet, message_packet, packet_from, request_for, source_eid, to_resolver}
use Rattle.router_core.proofs.WritableLemmas.{ecm-range, ecm-short, request-range, request-short, source_eid-range}
use Rattle.router_core.proofs.emitting.request_octets.Goals as goal

pub message_packet-requires-clause-range : goal.message_packet-requires-clause-range
message_packet-requires-clause-range c =
    let settings = c.args.site.now in
    let eid = c.args.eid in
    let source = source_eid eid c.args.source in
    let request = request_for settings false false c.args.invoked c.args.nonce source eid in
    let range = request-range settings c.requires.lawful false false c.args.invoked c.args.nonce source eid c.in-Some.resolver (source_eid-range eid c.args.source) (ap is_some (sym c.ours.ensures.first ∙ c.in-Some-ours.is)) in
    subst InRange (sym c.in_ok-message.ensures) (ecm-range settings eid request range)

pub message_packet-requires-clause-short : goal.message_packet-requires-clause-short
message_packet-requires-clause-short c =
    let settings = c.args.site.now in
    let eid = c.args.eid in
    let source = source_eid eid c.args.source in
    let request = request_for settings false false c.args.invoked c.args.nonce source eid in
    let short = request-short settings c.requires.lawful false false c.args.invoked c.args.nonce source eid in
    subst (λ (message : Message). length (canonical_message message) ≤ 65000) (sym c.in_ok-message.ensures)
    (omega (arith, ecm-short settings eid request short))

pub returns-clause-octets : goal.returns-clause-octets
unfolding emit_packet
returns-clause-octets c =
    let settings = c.args.site.now in
    let eid = c.args.eid in
    let told : Message = Control (ecm_for settings eid (request_for settings false false c.args.invoked c.args.nonce (source_eid eid c.args.source) eid)) in
    IfOk-weaker c.message_packet.result _ _ (λ packet is.
    is ∙ ap (λ (m : Message). message_packet c.in-Some-ours.from c.in-Some.resolver 4342 (canonical_message m)) c.in_ok-message.ensures
    ∙ ap (λ (o : Option Addr). packet_from o c.in-Some.resolver told) (sym c.in-Some-ours.is ∙ c.ours.ensures.first)
    ∙ ap (λ (o : Option Addr). to_resolver settings o told) (sym c.in-Some.is ∙ c.resolver.ensures)) c.message_packet.ensures.octets
