use Rattle.std.proofs.Common.{◌≡◌, ◌∙◌, ℕ, List, Some, drop, unwrap_or, subst, sym, ap, arith}
use Rattle.std.specs.Option.{option_and_then}
use Rattle.capture_ng.specs.Packets.{early, interface_number, kept, moment, packet_place}
use Rattle.capture_ng.specs.Position.{Position}
use Rattle.capture_ng.proofs.FrameLemmas.{frame-made, next-made}
use Rattle.capture_ng.proofs.frames.read_packet.Goals as goal

pub returns-clause-frame : goal.returns-clause-frame
returns-clause-frame c =
    let count = ap (λ (p : Position). p.count) c.at.view_is in
    let greatest = ap (λ (p : Position). unwrap_or p.greatest 0) c.at.view_is in
    frame-made c.args.vlans c.args.at.now c.args.head c.args.octets.items c.in-Some.interface c.in_ok-seen.seen.link c.at.inside.count c.max.result c.in_ok-seen.seen.moment c.interface_number-number.result c.in_ok-seen.seen.kept c.kept_octets-kept.result.items c.in_ok-octets.octets
    (omega (arith, count)) (omega (arith, greatest, c.max.ensures, c.unwrap_or.ensures)) (subst (λ (l : List ℕ). c.interface_number-number.result ≡ interface_number c.args.head l) c.as_slice-block.ensures.value c.interface_number-number.ensures) (sym c.in-Some.is ∙ c.interface_at.ensures.value) c.in_ok-seen.ensures.link (subst (λ (l : List ℕ). option_and_then early (moment c.args.at.now c.args.head c.in-Some.interface l) ≡ Some c.in_ok-seen.seen.moment) c.as_slice-block.ensures.value c.in_ok-seen.ensures.moment) (subst (λ (l : List ℕ). c.in_ok-seen.seen.kept ≡ kept c.args.head c.in-Some.interface l) c.as_slice-block.ensures.value c.in_ok-seen.ensures.kept) c.kept_octets-kept.ensures.value c.in_ok-octets.ensures.value

pub returns-clause-next : goal.returns-clause-next
returns-clause-next c =
    let count = ap (λ (p : Position). p.count) c.at.view_is in
    let greatest = ap (λ (p : Position). unwrap_or p.greatest 0) c.at.view_is in
    next-made c.args.vlans c.args.at.now c.in_ok-seen.seen.link (moment c.args.at.now c.args.head c.in-Some.interface c.args.octets.items) (drop (packet_place c.args.head) c.args.octets.items) c.at.inside.count c.max.result c.in_ok-seen.seen.moment c.interface_number-number.result c.in_ok-seen.seen.kept c.kept_octets-kept.result.items c.in_ok-octets.octets
    (omega (arith, count)) c.requires.count (omega (arith, greatest, c.max.ensures, c.unwrap_or.ensures)) (omega (arith, greatest, c.at.invariant)) (subst (λ (l : List ℕ). option_and_then early (moment c.args.at.now c.args.head c.in-Some.interface l) ≡ Some c.in_ok-seen.seen.moment) c.as_slice-block.ensures.value c.in_ok-seen.ensures.moment) c.in_ok-seen.ensures.most c.kept_octets-kept.ensures.value c.in_ok-octets.ensures.value c.in_ok-octets.ensures.octets
