use Rattle.std.proofs.Common.{◌≡◌, ◌∙◌, ◌+◌, ◌-◌, ℕ, length, take, drop, fold, ap, sym, arith, length-drop}
use Rattle.std.proofs.lemmas.List.{length-take}
use Rattle.ip_headers.specs.Checksum.{ones_add, ones_sum, words}
use Rattle.ip_headers.specs.Ip.{source_of, dest_of}
use Rattle.ip_headers.specs.Udp.{datagram_of, pseudo_header}
use Rattle.ip_headers.specs.declared.addr.Addr.{Addr}
use Rattle.ip_headers.proofs.DatagramLemmas.{udp_sum-of}
use Rattle.ip_headers.proofs.UdpLemmas.{udp_read-within}
use Rattle.ip_headers.proofs.udp.packet_sum.Goals as goal

pub returns : goal.returns
returns c =
    let packet = c.args.packet.now in
    let udp = c.args.udp.now in
    let within = udp_read-within packet udp c.requires in
    let from = source_of packet.header in
    let to = dest_of packet.header in
    let rest = drop udp.at packet.octets.now in
    let size : length (datagram_of packet udp) ≡ udp.length = omega (arith, length-take udp.length rest, length-drop udp.at packet.octets.now, within.whole) in
    let count : udp.at + c.from.result - udp.at ≡ udp.length = omega (arith, c.from.ensures) in
    let pseudo : c.pseudo_sum.result ≡ ones_sum (pseudo_header from to udp.length) =
    c.pseudo_sum.ensures ∙ ap (λ (a : Addr). ones_sum (pseudo_header a c.dest.result udp.length)) c.source.ensures
    ∙ ap (λ (a : Addr). ones_sum (pseudo_header from a udp.length)) c.dest.ensures in
    c.sum_from.ensures ∙ ap (λ (n : ℕ). fold ones_add c.pseudo_sum.result (words (take n rest))) count
    ∙ ap (λ (s : ℕ). fold ones_add s (words (datagram_of packet udp))) pseudo ∙ sym (udp_sum-of from to (datagram_of packet udp) udp.length size)
