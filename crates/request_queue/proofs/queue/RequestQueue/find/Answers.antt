use Rattle.std.proofs.Common.{◌&&◌, List, rules, ap, ◌∙◌}
use Rattle.keyed_list.specs.Keyed.{is_key}
use Rattle.keyed_list.specs.Lists.{last_where}
use Rattle.request_queue.specs.Found.{request_marks}
use Rattle.request_queue.specs.Queue.{Queue, is_waiting, waiting, with_nonce}
use Rattle.request_queue.specs.declared.request.Request.{Request}
use Rattle.request_queue.proofs.FoundLemmas.{last-found}
use Rattle.request_queue.proofs.queue.RequestQueue.find.Goals as goal

pub returns : goal.returns
returns c =
    let items : List Request = c.self.inside.requests.items in
    c.last.ensures (is_waiting c.args.m) (λ item told says. search rules)
    ∙ ap (λ key. last_where (λ item. is_key request_marks key item && is_waiting c.args.m item) items) c.nonce.ensures
    ∙ last-found c.args.nonce c.args.m items c.self.invariant.1.1.0
    ∙ ap (λ (queue : Queue). with_nonce (waiting c.args.m queue.requests) c.args.nonce) c.self.view_is
