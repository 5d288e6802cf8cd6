use Rattle.std.proofs.Common.{ℕ, sym, ap, ◌∙◌}
use Rattle.std.proofs.lemmas.Result.{err_from_is_err_and}
use Rattle.ip_headers.specs.Addr.{width}
use Rattle.map_messages.specs.Control.{carried_rules, ecm_rules}
use Rattle.map_messages.specs.declared.message.Ecm.{Ecm}
use Rattle.map_messages.proofs.ControlLemmas.{behind_packet, ecm_end, inside, one_family, packet_refused, word_refused}
use Rattle.map_messages.proofs.RequestLemmas.{refuses_as}
use Rattle.map_messages.proofs.ecm_reading.read_ecm.Goals as goal

pub returns-in-Some-clause-refused : goal.returns-in-Some-clause-refused
returns-in-Some-clause-refused c =
    word_refused c.args.base c.args.octets.now c.in-Some.refused (sym c.in-Some.ensures)

pub returns-in_err-packet-clause-refused : goal.returns-in_err-packet-clause-refused
returns-in_err-packet-clause-refused c =
    let p = err_from_is_err_and c.from_residual.result c.from_residual.ensures.1 in
    rw (p.1, p.2) (packet_refused c.args.base c.args.octets.now c.split_at.result.1.now c.in_err-packet.field-0.0 (sym c.in_default.ensures) c.split_at.ensures.back (sym c.in_err-packet.ensures.rules))

pub returns-in_err-ecm-clause-refused : goal.returns-in_err-ecm-clause-refused
returns-in_err-ecm-clause-refused c =
    let p = err_from_is_err_and c.from_residual-in_err-ecm.result c.from_residual-in_err-ecm.ensures.1 in
    let octets = c.args.octets.now in
    let base = c.args.base in
    let rest = c.split_at.result.1.now in
    let packet = c.in_ok-packet.packet in
    let is = inside base octets rest packet c.split_at.ensures.back c.in_ok-packet.ensures.packet in
    let same = behind_packet base octets rest packet (sym c.in_default.ensures) c.split_at.ensures.back (sym c.in_ok-packet.ensures.rules) is in
    rw (p.1, p.2) (refuses_as (Ecm × ℕ) (Ecm × ℕ) (ecm_rules base octets) (carried_rules packet.base packet.header packet.octets.now) c.in_err-ecm.field-0.0 same c.in_err-ecm.ensures.refused)

pub returns-clause-refused : goal.returns-clause-refused
returns-clause-refused c =
    let octets = c.args.octets.now in
    let base = c.args.base in
    let rest = c.split_at.result.1.now in
    let packet = c.in_ok-packet.packet in
    let is = inside base octets rest packet c.split_at.ensures.back c.in_ok-packet.ensures.packet in
    behind_packet base octets rest packet (sym c.in_default.ensures) c.split_at.ensures.back (sym c.in_ok-packet.ensures.rules) is ∙ c.in_ok-ecm.ensures.refused

pub returns-clause-range : goal.returns-clause-range
returns-clause-range c =
    let header = c.in_ok-packet.packet.header in
    record {
      family = ap width c.in_ok-ecm.ensures.source ∙ one_family header ∙ sym (ap width c.in_ok-ecm.ensures.dest);
      requests = c.in_ok-ecm.ensures.requests;
      replies = c.in_ok-ecm.ensures.replies;
    }

pub returns-clause-size : goal.returns-clause-size
returns-clause-size c =
    let octets = c.args.octets.now in
    let packet = c.in_ok-packet.packet in
    let is = inside c.args.base octets c.split_at.result.1.now packet c.split_at.ensures.back c.in_ok-packet.ensures.packet in
    ecm_end c.args.base octets packet c.in_ok-ecm.size is c.in_ok-ecm.ensures.size
