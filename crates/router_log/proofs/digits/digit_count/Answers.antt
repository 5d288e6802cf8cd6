use Rattle.std.proofs.Common.{arith}
use Rattle.router_log.proofs.DigitLemmas.{length_octet}
use Rattle.router_log.proofs.OctetLemmas.{count_at}
use Rattle.router_log.proofs.digits.digit_count.Goals as goal

pub overflow_sub-result : goal.overflow_sub-result
overflow_sub-result c = let is = count_at c.args.octet c.ranges.octet.fits in omega (arith, is)

pub returns-clause-count : goal.returns-clause-count
returns-clause-count c = let is = count_at c.args.octet c.ranges.octet.fits in omega (arith, is)

pub returns-clause-short : goal.returns-clause-short
returns-clause-short c =
    let is = count_at c.args.octet c.ranges.octet.fits in
    let few = length_octet c.args.octet c.ranges.octet.fits in
    omega (arith, is, few)
