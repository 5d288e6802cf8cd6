use Rattle.std.proofs.Common.{List, refl, sym, ap, ◌∙◌, arith}
use Rattle.std.specs.List.{slice_get}
use Rattle.std.proofs.lemmas.List.{drop_all}
use Rattle.request_queue.specs.Queue.{all_due}
use Rattle.request_queue.specs.declared.request.Request.{Request}
use Rattle.request_queue.proofs.FoundLemmas.{drop-at, due-here, due-later}
use Rattle.request_queue.proofs.searching.first_due.Goals as goal

pub loop-index-init : goal.loop-index-init
loop-index-init c = refl

pub loop-index-preserved : goal.loop-index-preserved
loop-index-preserved c =
    ap (λ (l : List Request). slice_get l 0)
    (sym (ap (all_due c.args.now) (drop-at c.args.requests.now.items c.loop-index.index c.in-Some.request.now (sym c.in-Some.ensures))
    ∙ due-later c.args.now c.in-Some.request.now _ c.if-is_due.ensures))
    ∙ c.loop-index.invariant

pub returns-then-is_due : goal.returns-then-is_due
returns-then-is_due c =
    ap (λ (l : List Request). slice_get l 0)
    (sym (ap (all_due c.args.now) (drop-at c.args.requests.now.items c.loop-index.index c.in-Some.request.now (sym c.in-Some.ensures))
    ∙ due-here c.args.now c.in-Some.request.now _ c.if-is_due.ensures))
    ∙ c.loop-index.invariant

pub returns : goal.returns
returns c =
    ap (λ (l : List Request). slice_get (all_due c.args.now l) 0)
    (sym (drop_all c.loop-index.index c.args.requests.now.items (omega (arith, c.loop-index-test.false, c.len-index-end.ensures.len))))
    ∙ c.loop-index.invariant
