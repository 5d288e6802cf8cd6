use Rattle.std.proofs.Common.{sym, ap, ◌∙◌, arith}
use Rattle.std.proofs.lemmas.Bool.{and_from}
use Rattle.std.proofs.lemmas.List.{drop_all}
use Rattle.request_queue.specs.Lists.{all_rest}
use Rattle.request_queue.proofs.FoundLemmas.{drop-at}
use Rattle.request_queue.proofs.again.least_wake.Goals as goal

pub loop-index-init : goal.loop-index-init
loop-index-init c = λ wake less rest. rest

pub loop-index-preserved : goal.loop-index-preserved
loop-index-preserved c = λ wake less rest.
    c.loop-index.invariant wake (omega (arith, less, c.min-wake.ensures))
    (ap (all_rest wake) (drop-at c.args.requests.now.items c.loop-index.index c.in-Some.request.now (sym c.in-Some.ensures))
    ∙ and_from _ _ (c.wake_of.ensures wake (omega (arith, less, c.min-wake.ensures))) rest)

pub returns : goal.returns
returns c =
    c.loop-index.invariant c.loop-index.wake (omega arith) (ap (all_rest c.loop-index.wake) (drop_all c.loop-index.index c.args.requests.now.items (omega (arith, c.loop-index-test.false, c.len-index-end.ensures.len))))
