-- Sums of datagrams.
use Rattle.std.proofs.Common.{◌≡◌, ◌≢◌, ◌<◌, ℕ, ◌+◌, ◌-◌, List, ◌++◌, fold, length, ap, ◌∙◌, arith}
use Rattle.std.proofs.lemmas.Grind.{common_steps}
use Rattle.ip_headers.specs.Checksum.{ones_add, ones_sum, words}
use Rattle.ip_headers.specs.Udp.{datagram, nonzero, pseudo_header, udp_octets, udp_sum}
use Rattle.ip_headers.specs.declared.addr.Addr.{Addr}
use Rattle.ip_headers.proofs.SumLemmas.{sum-pseudo_header}

pub length-datagram : (source dest sum : ℕ) (payload : List ℕ) → length (datagram source dest sum payload) ≡ 8 + length payload
length-datagram source dest sum payload = omega arith

-- pseudo-header and datagram, one after the other
pub udp_sum-of : (from to : Addr) (octets : List ℕ) (size : ℕ) → length octets ≡ size → udp_sum from to octets ≡ fold ones_add (ones_sum (pseudo_header from to size)) (words octets)
udp_sum-of from to octets size is =
    ap (λ (n : ℕ). ones_sum (pseudo_header from to n ++ octets)) is ∙ sum-pseudo_header from to size octets

-- pseudo-header, header and payload, one after the other
pub udp_sum-datagram : (from to : Addr) (source dest sum : ℕ) (payload : List ℕ)
    → udp_sum from to (datagram source dest sum payload)
    ≡ fold ones_add (fold ones_add (ones_sum (pseudo_header from to (8 + length payload))) (words (udp_octets source dest (8 + length payload) sum))) (words payload)
udp_sum-datagram from to source dest sum payload =
    udp_sum-of from to (datagram source dest sum payload) (8 + length payload) (length-datagram source dest sum payload)

pub nonzero-whole : (sum : ℕ) → sum ≡ 65535 → nonzero (65535 - sum) ≡ 65535
nonzero-whole sum whole = rw whole

pub nonzero-other : (sum : ℕ) → sum < 65536 → sum ≢ 65535 → nonzero (65535 - sum) ≡ 65535 - sum
nonzero-other sum fits other = grind (arith, common_steps)
