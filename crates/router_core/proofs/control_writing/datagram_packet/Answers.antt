use Rattle.std.proofs.Common.{◌≡◌, ◌≤◌, ◌∙◌, ◌+◌, ◌++◌, ℕ, List, true, length, ap, sym, subst, arith}
use Rattle.ip_headers.specs.Udp.{canonical_udp}
use Rattle.map_messages.specs.Control.{control_header}
use Rattle.router_model.specs.Emits.{message_packet}
use Rattle.router_core.proofs.WritableLemmas.{length-message_packet}
use Rattle.router_core.proofs.control_writing.datagram_packet.Goals as goal

pub returns-clause-size : goal.returns-clause-size
returns-clause-size c =
    let from = c.args.from in
    let to = c.args.to in
    let payload : List ℕ = c.args.payload.now in
    let is : c.write_udp.new.out ≡ message_packet from to c.args.port payload =
    c.in_ok-write_udp.ensures.ok ∙ ap (λ (out : List ℕ). out ++ canonical_udp from to 4342 c.args.port payload true) (c.in_ok-write_control_header.ensures ∙ ap (λ (out : List ℕ). out ++ control_header from to (8 + length payload)) c.in_ok-packet.ensures) in
    subst (λ (out : List ℕ). length out ≤ 262144) (sym is) (omega (arith, c.requires.short, length-message_packet from to c.args.port payload))
