use Rattle.std.proofs.Common.{rules, arith}
use Rattle.request_queue.proofs.TermLemmas.{open-between, open-counted}
use Rattle.request_queue.proofs.terms.open_in.Goals as goal

pub overflow_sub-result : goal.overflow_sub-result
overflow_sub-result c =
    omega (arith, open-between c.args.terms.now.keys c.len.ensures.ascends c.args.m c.args.iid c.place-first.result c.place-end.result c.place-first.ensures.within (search rules) (search rules) c.place-end.ensures.within (search rules) (search rules))

pub returns : goal.returns
returns c requests distinct are =
    open-counted c.args.terms.now.keys c.len.ensures.ascends c.args.m c.args.iid c.place-first.result c.place-end.result c.place-first.ensures.within (search rules) (search rules) c.place-end.ensures.within (search rules) (search rules) requests are distinct
