use Rattle.std.proofs.Common.{◌∙◌, ◌-◌, ℕ, ap, sym}
use Rattle.ip_headers.specs.Udp.{nonzero}
use Rattle.ip_headers.proofs.DatagramLemmas.{nonzero-other, nonzero-whole}
use Rattle.ip_headers.proofs.udp_writing.udp_checksum.Goals as goal

pub returns-then-sum : goal.returns-then-sum
returns-then-sum c = sym (nonzero-whole _ (sym c.datagram_sum-sum.ensures ∙ c.if-sum.true))

pub returns-else-sum : goal.returns-else-sum
returns-else-sum c =
    sym (nonzero-other c.datagram_sum-sum.result c.datagram_sum-sum.type_inv c.if-sum.false) ∙ ap (λ (s : ℕ). nonzero (65535 - s)) c.datagram_sum-sum.ensures
