use Rattle.std.proofs.Common.{rules, ◌∙◌}
use Rattle.ip_headers.proofs.PlainSums.{plain_sum-both}
use Rattle.ip_headers.proofs.sums.wide_sum.Goals as goal

pub loop-rest-preserved : goal.loop-rest-preserved
loop-rest-preserved c =
    let both = c.from-sum-in-len4-up.ensures ∙ c.from_be_bytes.ensures in
    let same = plain_sum-both c.loop-rest.rest.now c.loop-rest.sum c.from-sum-in-len4-up.result c.in-len4-up.len_at_least both in
    (same ∙ c.loop-rest.invariant.0, search rules)
