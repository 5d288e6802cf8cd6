use Rattle.std.proofs.Common.{arith}
use Rattle.request_queue.proofs.EidLemmas.{eids-few}
use Rattle.request_queue.proofs.TermLemmas.{terms-few}
use Rattle.request_queue.proofs.index.count_found.Goals as goal

pub returns-clause-eids : goal.returns-clause-eids
returns-clause-eids c =
    let few = eids-few c.args.index.now.eids.pairs c.args.requests.now.items c.requires.eids in
    omega (arith, few, c.len-3.ensures.len)

pub returns-clause-terms : goal.returns-clause-terms
returns-clause-terms c =
    let few = terms-few c.args.index.now.terms.keys c.args.requests.now.items c.len-2.ensures.ascends c.requires.terms in
    omega (arith, few, c.len-3.ensures.len)
