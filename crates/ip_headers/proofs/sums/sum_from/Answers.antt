use Rattle.std.proofs.Common.{◌∙◌, ℕ, List, fold, ap, sym, arith}
use Rattle.ip_headers.specs.Checksum.{ones_add, words}
use Rattle.ip_headers.proofs.PlainSums.{sum-append}
use Rattle.ip_headers.proofs.sums.sum_from.Goals as goal

pub loop-rest-preserved : goal.loop-rest-preserved
loop-rest-preserved c =
    let block : List ℕ = c.split_at.result.0.now in
    let after : List ℕ = c.split_at.result.1.now in
    let sum = c.loop-rest.sum in
    ap (λ (s : ℕ). fold ones_add s (words after)) c.sum_block-sum.ensures
    ∙ sum-append block after sum 32768 (omega (arith, c.split_at.ensures.front_len))
    ∙ ap (λ (octets : List ℕ). fold ones_add sum (words octets)) (sym c.split_at.ensures.by_index.0) ∙ c.loop-rest.invariant
