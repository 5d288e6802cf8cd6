use Rattle.std.proofs.Common.{◌∙◌, refl, sym, arith}
use Rattle.decap.proofs.OpenRules.{checksum_refused, lisp_refused, encrypted, inner_refused, opens, payload_room, eight, fault_of-err}
use Rattle.decap.proofs.opening.open_tunnel.Goals as goal

pub returns-in_err-check_udp-clause-rules : goal.returns-in_err-check_udp-clause-rules
returns-in_err-check_udp-clause-rules c =
    fault_of-err _ _ c.from_residual.ensures.1
    ∙ checksum_refused c.args.packet.now c.args.udp.now c.in_err-check_udp.field-0.0 c.in_err-check_udp.ensures

pub overflow_add-place : goal.overflow_add-place
overflow_add-place c =
    let room = payload_room c.args.packet.now c.args.udp.now c.requires in
    omega (arith, room)

pub overflow_add-place-2 : goal.overflow_add-place-2
overflow_add-place-2 c =
    let room = payload_room c.args.packet.now c.args.udp.now c.requires in
    omega (arith, room)

pub read_header-requires : goal.read_header-requires
read_header-requires c =
    rw c.udp_payload-payload.ensures (payload_room c.args.packet.now c.args.udp.now c.requires)

pub returns-in_err-header-clause-rules : goal.returns-in_err-header-clause-rules
returns-in_err-header-clause-rules c =
    let lisp = rw c.udp_payload-payload.ensures at c.in_err-header.ensures.refused in
    fault_of-err _ _ c.from_residual-in_err-header.ensures.1
    ∙ lisp_refused c.args.packet.now c.args.udp.now c.in_err-header.field-0.0 c.in_ok-check_udp.ensures lisp

pub returns-then-header-ne0-clause-rules : goal.returns-then-header-ne0-clause-rules
returns-then-header-ne0-clause-rules c =
    let lisp = rw c.udp_payload-payload.ensures at c.in_ok-header.ensures.refused in
    let key = rw (c.in_ok-header.ensures.value, c.udp_payload-payload.ensures) at c.if-header-ne0.true in
    encrypted c.args.packet.now c.args.udp.now c.in_ok-check_udp.ensures lisp key

pub inner_packet-requires : goal.inner_packet-requires
inner_packet-requires c = record {
  header = eight _ _ (sym c.in_ok-header.ensures.refused);
  room = rw c.udp_payload-payload.ensures (payload_room c.args.packet.now c.args.udp.now c.requires);
}

pub returns-in_err-inner-clause-rules : goal.returns-in_err-inner-clause-rules
returns-in_err-inner-clause-rules c =
    let lisp = rw c.udp_payload-payload.ensures at c.in_ok-header.ensures.refused in
    let key = rw (c.in_ok-header.ensures.value, c.udp_payload-payload.ensures) at c.if-header-ne0.false in
    let inner = rw c.udp_payload-payload.ensures at c.in_err-inner.ensures.rules in
    fault_of-err _ _ c.from_residual-in_err-inner.ensures.1
    ∙ inner_refused c.args.packet.now c.args.udp.now c.in_err-inner.field-0.0 c.in_ok-check_udp.ensures lisp key inner

pub returns-clause-rules : goal.returns-clause-rules
returns-clause-rules c =
    let lisp = rw c.udp_payload-payload.ensures at c.in_ok-header.ensures.refused in
    let key = rw (c.in_ok-header.ensures.value, c.udp_payload-payload.ensures) at c.if-header-ne0.false in
    let inner = rw c.udp_payload-payload.ensures at c.in_ok-inner.ensures.rules in
    opens c.args.packet.now c.args.udp.now c.in_ok-check_udp.ensures lisp key inner

pub returns-clause-value : goal.returns-clause-value
returns-clause-value c = record {
  header = rw c.udp_payload-payload.ensures at c.in_ok-header.ensures.value;
  range = c.in_ok-header.ensures.range;
  inner = rw c.udp_payload-payload.ensures at c.in_ok-inner.ensures.value;
  outer = refl;
}
