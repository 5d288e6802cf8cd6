use Rattle.std.proofs.Common.{◌==◌, cond, length, ap, ◌∙◌, arith}
use Rattle.std.proofs.lemmas.List.{length-map}
use Rattle.request_queue.specs.Queue.{Queue, behind, may_send_again, once_more}
use Rattle.request_queue.specs.declared.request.Request.{Request}
use Rattle.request_queue.proofs.AgainLemmas.{all_may, behind-sent_again}
use Rattle.request_queue.proofs.DistinctLemmas.{distinct-sent_again}
use Rattle.request_queue.proofs.IndexLemmas.{found-again}
use Rattle.request_queue.proofs.OpenLemmas.{keeps-again}
use Rattle.request_queue.proofs.RestLemmas.{all_rest-sent_again}
use Rattle.request_queue.proofs.queue.RequestQueue.retry.Goals as goal

pub send_each_again-requires : goal.send_each_again-requires
send_each_again-requires c =
    all_may c.args.nonce c.self.inside.requests.items c.self.invariant.1.1.0
    (ap (λ (queue : Queue). may_send_again c.args.nonce queue.requests) c.self.view_is ∙ c.requires)

pub invariant_of-self : goal.invariant_of-self
invariant_of-self c =
    let before = c.self.inside.requests.items in
    rw (c.send_each_again.ensures.items) (
      keeps-again c.args.nonce c.self.inside.limits before c.self.invariant.0,
      (
        all_rest-sent_again c.args.nonce c.self.inside.wake before c.self.invariant.1.0,
        (distinct-sent_again c.args.nonce before ∙ c.self.invariant.1.1.0, found-again c.args.nonce c.self.inside.index before c.self.invariant.1.1.1),
      ),
    )

pub returns-clause-behind : goal.returns-clause-behind
returns-clause-behind c =
    ap (behind c.args.nonce) c.send_each_again.ensures.items
    ∙ behind-sent_again c.args.nonce c.self.inside.requests.items c.self.invariant.1.1.0
    ∙ ap (λ (queue : Queue). behind c.args.nonce queue.requests) c.self.view_is

pub returns-clause-spare : goal.returns-clause-spare
returns-clause-spare c =
    let same = length-map c.self.inside.requests.items (λ (request : Request). cond (request.nonce == c.args.nonce) (once_more request) request) in
    rw (← c.self.view_is) (omega (arith, same, ap length c.send_each_again.ensures.items, c.send_each_again.ensures.room))
