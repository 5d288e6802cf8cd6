use Rattle.replay.proofs.SplittingLemmas.{halves-parts, part-under}
use Rattle.replay.proofs.splitting.Splitting.split.Goals as goal

pub returns-in-Some-clause-part : goal.returns-in-Some-clause-part
returns-in-Some-clause-part g c =
    let both = c.in_ok-first.ensures in
    let parts = halves-parts c.args.frame c.in-Some.first c.in-Some.second c.in_ok-first.field-0 c.in-Some.is both.kept both.size both.octets in
    rw c.numbered.ensures.frame (part-under c.args.frame c.in-Some.first _ parts.0)

pub returns-in-Some-clause-half : goal.returns-in-Some-clause-half
returns-in-Some-clause-half g c =
    let both = c.in_ok-first.ensures in
    let parts = halves-parts c.args.frame c.in-Some.first c.in-Some.second c.in_ok-first.field-0 c.in-Some.is both.kept both.size both.octets in
    rw c.numbered.ensures.half parts.1
