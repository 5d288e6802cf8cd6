use Rattle.std.proofs.Common.{◌≡◌, ℕ, List, sym, ap, subst, arith}
use Rattle.std.specs.Prelude.{IfOk}
use Rattle.std.proofs.lemmas.Result.{err_from_is_err_and}
use Rattle.ip_headers.specs.declared.header.UdpHeader.{UdpHeader}
use Rattle.map_messages.specs.Control.{Carries}
use Rattle.map_messages.specs.Plain.{plain_size, IsPlainAt}
use Rattle.map_messages.specs.declared.message.Ecm.{Ecm}
use Rattle.map_messages.proofs.DatagramLemmas.{behind_datagram, datagram_refused, messages_inside, payload_is, payload_room, same_udp}
use Rattle.map_messages.proofs.ecm_reading.read_carried.Goals as goal

pub returns-in_err-udp-clause-refused : goal.returns-in_err-udp-clause-refused
returns-in_err-udp-clause-refused c =
    let p = err_from_is_err_and c.from_residual.result c.from_residual.ensures.1 in
    rw (p.1, p.2) (datagram_refused c.args.packet.now c.in_err-udp.field-0.0 (sym c.in_err-udp.ensures.refused))

pub overflow_add-packet : goal.overflow_add-packet
overflow_add-packet c =
    let room = payload_room c.args.packet.now c.in_ok-udp.udp c.in_ok-udp.ensures.value in
    omega (arith, room)

pub overflow_add-packet-2 : goal.overflow_add-packet-2
overflow_add-packet-2 c =
    let room = payload_room c.args.packet.now c.in_ok-udp.udp c.in_ok-udp.ensures.value in
    omega (arith, room)

pub read_inner-requires : goal.read_inner-requires
read_inner-requires c =
    rw c.udp_payload-payload.ensures (payload_room c.args.packet.now c.in_ok-udp.udp c.in_ok-udp.ensures.value)

pub returns-clause-refused : goal.returns-clause-refused
returns-clause-refused c =
    let same = behind_datagram c.args.packet.now c.in_ok-udp.udp c.udp_payload-payload.result.now c.in_ok-udp.ensures.value c.udp_payload-payload.ensures (sym c.in_ok-udp.ensures.refused) in
    rw same c.read_inner.ensures.refused

pub returns-clause-port : goal.returns-clause-port
returns-clause-port c =
    let same = ap (λ (u : UdpHeader). u.source) (same_udp c.args.packet.now c.in_ok-udp.udp c.in_ok-udp.ensures.value) in
    subst (λ (n : ℕ). IfOk c.read_inner.result (λ (read : Ecm × ℕ). read.0.source_port ≡ n)) same c.read_inner.ensures.port

pub returns-clause-value : goal.returns-clause-value
returns-clause-value c =
    let is = payload_is c.args.packet.now c.in_ok-udp.udp c.udp_payload-payload.result.now c.in_ok-udp.ensures.value c.udp_payload-payload.ensures in
    subst (λ (p : List ℕ). IfOk c.read_inner.result (λ (read : Ecm × ℕ). Carries (IsPlainAt p) read.0.request read.0.reply)) is c.read_inner.ensures.value

pub returns-clause-size : goal.returns-clause-size
returns-clause-size c =
    let is = payload_is c.args.packet.now c.in_ok-udp.udp c.udp_payload-payload.result.now c.in_ok-udp.ensures.value c.udp_payload-payload.ensures in
    subst (λ (p : List ℕ). IfOk c.read_inner.result (λ (read : Ecm × ℕ). read.1 ≡ plain_size p)) is c.read_inner.ensures.size

pub returns-clause-inside : goal.returns-clause-inside
returns-clause-inside c =
    messages_inside c.args.packet.now c.in_ok-udp.udp c.udp_payload-payload.result.now c.read_inner.result c.in_ok-udp.ensures.value c.udp_payload-payload.ensures c.read_inner.ensures.inside
