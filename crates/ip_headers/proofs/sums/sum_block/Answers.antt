use Rattle.std.proofs.Common.{◌<◌, ◌∙◌, All, arith}
use Rattle.std.proofs.lemmas.Grind.{get_or_default_zero}
use Rattle.ip_headers.proofs.PlainSums.{folded-plain_sum}
use Rattle.ip_headers.proofs.sums.sum_block.Goals as goal

pub returns : goal.returns
returns c =
    let octets = c.args.octets.now in
    let all : All (λ octet. octet < 256) octets = λ k d below. rw (get_or_default_zero octets k d below) (c.type_inv.octets k).fits in
    c.folded.ensures ∙ c.wide_sum.ensures ∙ folded-plain_sum octets c.args.start all (omega (arith, c.ranges.start.fits))
