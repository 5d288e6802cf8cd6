use Rattle.std.proofs.Common.{length, sym, ap, ◌∙◌}
use Rattle.std.proofs.lemmas.List.Sums.{length-filter}
use Rattle.request_queue.specs.Queue.{Queue, is_waiting, waiting}
use Rattle.request_queue.proofs.queue.RequestQueue.open_count.Goals as goal

pub returns-clause-count : goal.returns-clause-count
returns-clause-count c =
    c.count.ensures
    ∙ sym (length-filter (is_waiting c.args.m) c.self.inside.requests.items)
    ∙ ap (λ (queue : Queue). length (waiting c.args.m queue.requests)) c.self.view_is
