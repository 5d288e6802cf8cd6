use Rattle.std.proofs.Common.{◌≡◌, ◌∙◌, ◌+◌, ℕ, List, length, fold, ap, sym}
use Rattle.ip_headers.specs.Checksum.{ones_add, ones_sum, words}
use Rattle.ip_headers.specs.Udp.{pseudo_header, udp_octets}
use Rattle.ip_headers.proofs.DatagramLemmas.{udp_sum-datagram}
use Rattle.ip_headers.proofs.udp_writing.datagram_sum.Goals as goal

pub returns : goal.returns
returns c =
    let size = 8 + length c.args.payload.now in
    let header = udp_octets c.args.source c.args.dest size 0 in
    let front : c.sum_from-front.result ≡ fold ones_add (ones_sum (pseudo_header c.args.from c.args.to size)) (words header) =
    c.sum_from-front.ensures ∙ ap (λ (octets : List ℕ). fold ones_add c.pseudo_sum.result (words octets)) c.udp_octets-header.ensures
    ∙ ap (λ (s : ℕ). fold ones_add s (words header)) c.pseudo_sum.ensures in
    c.sum_from.ensures ∙ ap (λ (s : ℕ). fold ones_add s (words c.args.payload.now)) front
    ∙ sym (udp_sum-datagram c.args.from c.args.to c.args.source c.args.dest 0 c.args.payload.now)
