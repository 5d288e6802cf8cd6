use Rattle.std.proofs.Common.{◌∙◌, max, nat_lt, sym, ap}
use Rattle.lisp_settings.specs.Instances.{requests_in}
use Rattle.request_queue.specs.Queue.{open_in, waiting}
use Rattle.router_core.specs.Table.{TableSeen}
use Rattle.router_core.proofs.HeldLemmas.{requests-seen}
use Rattle.router_core.proofs.table.Table.may_open.Goals as goal

pub returns : goal.returns
returns c =
    let iid = c.args.iid in
    let p = c.args.self.now.parts in
    let now = max c.args.m p.now in
    let inside = c.self.inside in
    c.has_place_in.ensures
    ∙ ap (λ t. nat_lt (open_in iid (waiting t inside.queue.requests)) (requests_in inside.queue.limits iid)) c.moment_at.ensures
    ∙ ap (λ l. nat_lt (open_in iid (waiting now inside.queue.requests)) (requests_in l iid)) c.self.invariant.5.requests
    ∙ ap (λ (t : TableSeen). nat_lt (open_in iid (waiting now t.parts.requests)) (requests_in t.parts.limits iid)) c.self.view_is
    ∙ ap (λ l. nat_lt (open_in iid l) (requests_in p.limits iid)) (sym (requests-seen p c.args.m))
