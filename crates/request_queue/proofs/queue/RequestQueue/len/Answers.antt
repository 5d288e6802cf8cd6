use Rattle.std.proofs.Common.{arith}
use Rattle.request_queue.proofs.OpenLemmas.{keeps-few}
use Rattle.request_queue.proofs.queue.RequestQueue.len.Goals as goal

pub returns-clause-most : goal.returns-clause-most
returns-clause-most c =
    let few = keeps-few c.self.inside.limits c.self.inside.requests.items c.self.invariant.0 in
    omega (arith, few, c.as_slice.ensures.limits.requests, c.len-3.ensures.len)
