use Rattle.std.proofs.Common.{arith, ◌∙◌, length, sym, ap}
use Rattle.capture_io.specs.Frame.{Frame}
use Rattle.router_core.specs.Seen.{packet_seen}
use Rattle.split_v4.specs.Limits.{least_split_size}
use Rattle.split_v4.proofs.LeavingLemmas.{above-cut, above-less, halves-cut, halves-none, halves-uncut, split_size-least}
use Rattle.split_v4.proofs.splitting.split_frame.Goals as goal

pub returns-then-len-most-clause-halves : goal.returns-then-len-most-clause-halves
returns-then-len-most-clause-halves c =
    sym (halves-none c.args.settings.now c.args.frame.now (omega (arith, c.if-len-most.true, c.len.ensures, c.from-most.ensures, c.split_size.ensures, ap (λ (frame : Frame). length frame.octets) c.frame.view_is)))

pub returns-in_default-cut_of-clause-halves : goal.returns-in_default-cut_of-clause-halves
returns-in_default-cut_of-clause-halves c =
    halves-uncut c.args.settings.now c.args.frame.now (packet_seen c.in-Some.packet) c.from-most.result c.in-Some.ensures.value (c.from-most.ensures ∙ c.split_size.ensures)
    (sym c.in_default-cut_of.is ∙ c.cut_of.ensures)

pub first_half-requires-clause-may : goal.first_half-requires-clause-may
first_half-requires-clause-may c =
    let most = c.from-most.result in
    let octets = c.in-Some.packet.octets.now in
    let cut = above-cut most octets c.in-Some-cut_of.cut (sym c.in-Some-cut_of.is ∙ c.cut_of.ensures) in
    above-less least_split_size most octets (omega (arith, c.from-most.ensures, c.split_size.ensures, split_size-least c.args.settings.now)) cut.0

pub first_half-requires-clause-cut : goal.first_half-requires-clause-cut
first_half-requires-clause-cut c =
    (above-cut c.from-most.result c.in-Some.packet.octets.now c.in-Some-cut_of.cut (sym c.in-Some-cut_of.is ∙ c.cut_of.ensures)).1

pub second_half-requires-clause-may : goal.second_half-requires-clause-may
second_half-requires-clause-may c =
    let most = c.from-most.result in
    let octets = c.in-Some.packet.octets.now in
    let cut = above-cut most octets c.in-Some-cut_of.cut (sym c.in-Some-cut_of.is ∙ c.cut_of.ensures) in
    above-less least_split_size most octets (omega (arith, c.from-most.ensures, c.split_size.ensures, split_size-least c.args.settings.now)) cut.0

pub second_half-requires-clause-cut : goal.second_half-requires-clause-cut
second_half-requires-clause-cut c =
    (above-cut c.from-most.result c.in-Some.packet.octets.now c.in-Some-cut_of.cut (sym c.in-Some-cut_of.is ∙ c.cut_of.ensures)).1

pub returns-clause-halves : goal.returns-clause-halves
returns-clause-halves c =
    let most = c.from-most.result in
    let octets = c.in-Some.packet.octets.now in
    let cut = above-cut most octets c.in-Some-cut_of.cut (sym c.in-Some-cut_of.is ∙ c.cut_of.ensures) in
    rw (c.in_ok-first.ensures.value, c.in_ok-second.ensures.value)
    (halves-cut c.args.settings.now c.args.frame.now (packet_seen c.in-Some.packet) most c.in-Some.ensures.value (c.from-most.ensures ∙ c.split_size.ensures) cut.0)
