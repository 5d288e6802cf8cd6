use Rattle.std.proofs.Common.{◌∙◌, List, ℕ, fold, ap, sym}
use Rattle.ip_headers.specs.Checksum.{ones_add, words}
use Rattle.ip_headers.specs.Udp.{addr_octets}
use Rattle.ip_headers.proofs.sums.addr_sum.Goals as goal

pub returns-in-V6 : goal.returns-in-V6
returns-in-V6 c =
    c.sum_from-in-V6.ensures
    ∙ ap (λ (octets : List ℕ). fold ones_add c.args.start (words octets)) (c.to_be_bytes-in-V6.ensures ∙ ap addr_octets (sym c.in-V6.is))
