use Rattle.std.proofs.Common.{length, ap, arith}
use Rattle.request_queue.specs.Queue.{Queue, is_waiting, waiting}
use Rattle.request_queue.proofs.DropLemmas.{length-filter_le}
use Rattle.request_queue.proofs.OpenLemmas.{open-few}
use Rattle.request_queue.proofs.queue.RequestQueue.open_in.Goals as goal

pub overflow_cast-result : goal.overflow_cast-result
overflow_cast-result c =
    let requests = c.self.inside.requests.items in
    let is = c.open_in.ensures requests c.self.invariant.1.1.0 c.self.invariant.1.1.1.terms in
    let few = open-few c.args.iid (waiting c.args.m requests) in
    let fewer = length-filter_le (is_waiting c.args.m) requests in
    let here = ap (λ (queue : Queue). length queue.requests) c.self.view_is in
    omega (arith, is, few, fewer, here, c.len.ensures.len, c.len.ensures.most)
