use Rattle.std.proofs.Common.{◌≡◌, ◌∙◌, ℕ, fold, ap, sym, arith}
use Rattle.ip_headers.specs.Checksum.{ones_add, words}
use Rattle.ip_headers.specs.Udp.{addr_octets}
use Rattle.ip_headers.proofs.SumLemmas.{ones_sum-pseudo_header}
use Rattle.ip_headers.proofs.sums.pseudo_sum.Goals as goal

pub returns : goal.returns
returns c =
    let sum = c.addr_sum-addresses.result in
    let is : sum ≡ fold ones_add (fold ones_add 0 (words (addr_octets c.args.from))) (words (addr_octets c.args.to)) =
    c.addr_sum-addresses.ensures ∙ ap (λ (s : ℕ). fold ones_add s (words (addr_octets c.args.to))) c.addr_sum.ensures in
    c.ones_add-2.ensures ∙ ap (λ (s : ℕ). ones_add s c.args.length) (rw c.from.ensures at c.ones_add.ensures)
    ∙ sym (ones_sum-pseudo_header c.args.from c.args.to sum c.args.length is c.addr_sum-addresses.type_inv (omega arith))
