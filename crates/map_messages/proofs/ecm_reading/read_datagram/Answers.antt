use Rattle.std.proofs.Common.{◌≡◌, ◌+◌, sym, ◌∙◌, arith}
use Rattle.std.proofs.lemmas.Result.{err_from_is_err_and}
use Rattle.map_messages.proofs.DatagramLemmas.{other_port, sum_counts}
use Rattle.map_messages.proofs.ecm_reading.read_datagram.Goals as goal

pub returns-then-udp-ne-LISP_CONTROL_PORT-clause-refused :
    goal.returns-then-udp-ne-LISP_CONTROL_PORT-clause-refused
returns-then-udp-ne-LISP_CONTROL_PORT-clause-refused c =
    let packet = c.args.packet.now in
    let udp = c.in_ok-udp.udp in
    let place : packet.base + udp.at + 2 ≡ packet.base + (udp.at + 2) = omega arith in
    rw (c.refused-then-udp-ne-LISP_CONTROL_PORT.ensures, place)
    (sym (other_port packet udp (rw c.is_datagram.ensures at c.if-not-is_datagram.false) (sym c.in_ok-udp.ensures) c.if-udp-ne-LISP_CONTROL_PORT.true))

pub returns-in_err-check_udp-clause-refused : goal.returns-in_err-check_udp-clause-refused
returns-in_err-check_udp-clause-refused c =
    let p = err_from_is_err_and c.from_residual-in_err-check_udp.result c.from_residual-in_err-check_udp.ensures.1 in
    let packet = c.args.packet.now in
    let udp = c.in_ok-udp.udp in
    rw (p.1, p.2) (
    c.in_err-check_udp.ensures
    ∙ sym (sum_counts packet udp (rw c.is_datagram.ensures at c.if-not-is_datagram.false) (sym c.in_ok-udp.ensures) c.if-udp-ne-LISP_CONTROL_PORT.false)
    )

pub returns-clause-refused : goal.returns-clause-refused
returns-clause-refused c =
    let packet = c.args.packet.now in
    let udp = c.in_ok-udp.udp in
    c.in_ok-check_udp.ensures
    ∙ sym (sum_counts packet udp (rw c.is_datagram.ensures at c.if-not-is_datagram.false) (sym c.in_ok-udp.ensures) c.if-udp-ne-LISP_CONTROL_PORT.false)
