-- The packet of a record without a link's header.
use Rattle.std.proofs.Common.{◌≡◌, ℕ, ◌-◌, List, length, take, Option, sym, ap, subst, ◌∙◌, arith}
use Rattle.std.proofs.lemmas.List.{take_all}
use Rattle.octets.specs.Rules.{first_failing}
use Rattle.octets.specs.declared.refused.Refused.{Refused}
use Rattle.ip_headers.specs.Ip.{ip_rules, packet_in}
use Rattle.ip_headers.specs.Packet.{IsPacket}
use Rattle.capture_io.specs.Frame.{Frame}
use Rattle.capture_io.specs.declared.link.Link.{Link}
use Rattle.capture_io.specs.declared.link.Link.TheVariants.{Raw}
use Rattle.audit.specs.Packets.{record_packet, unless_refused}

raw-packet : (number moment : ℕ) (octets : List ℕ) → IsPacket 0 octets → record_packet (record { number = number; moment = moment; link = Raw; octets = octets }) ≡ octets
unfolding record_packet
raw-packet number moment octets is =
    let none : length octets - length octets ≡ 0 = omega arith in
    ap (λ (base : ℕ). unless_refused (first_failing (ip_rules base octets)) (packet_in octets)) none
    ∙ ap (λ (refusal : Option Refused). unless_refused refusal (packet_in octets)) is.lawful
    ∙ ap (λ (n : ℕ). take n octets) (sym is.exact)
    ∙ take_all (length octets) octets (omega arith)

-- exactly one packet is taken whole
pub record_packet-raw : (frame : Frame) → frame.link ≡ Raw → IsPacket 0 frame.octets → record_packet frame ≡ frame.octets
record_packet-raw frame raw is =
    subst (λ (link : Link). record_packet (record { number = frame.number; moment = frame.moment; link = link; octets = frame.octets }) ≡ frame.octets) (sym raw)
    (raw-packet frame.number frame.moment frame.octets is)
