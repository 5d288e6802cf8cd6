use Rattle.std.proofs.Common.{◌≡◌, ◌++◌, ◌∙◌, ◌∷◌, [], true, List, Some, length, append_assoc, ap, sym, subst, arith}
use Rattle.std.proofs.lemmas.List.{append-nil}
use Rattle.request_queue.specs.Lists.{are_distinct}
use Rattle.request_queue.specs.Queue.{all_due, asked_after, waiting}
use Rattle.request_queue.specs.declared.request.Request.{Request}
use Rattle.router_core.specs.Table.{TableSeen}
use Rattle.router_core.specs.Ticking.{AreOwed}
use Rattle.router_core.proofs.TickingLemmas.{all_due-owed, due-few, none-left}
use Rattle.router_core.proofs.table.Table.due_requests.Goals as goal

pub loop-request-init : goal.loop-request-init
loop-request-init c =
    let requests = c.args.self.now.parts.requests in
    let kept = ap (λ (t : TableSeen). length t.parts.requests) c.self.view_is in
    let len = c.len.ensures.len in
    let few = due-few c.args.m requests in
    let made = c.new-due.ensures.len in
    let same = c.in_ok-reserve.ensures.len in
    let room = c.in_ok-reserve.ensures.ok in
    record {
      whole = ap (λ (l : List Request). l ++ all_due c.args.m requests) (c.in_ok-reserve.ensures.items ∙ c.new-due.ensures.items);
      room = omega (arith, kept, len, few, made, same, room);
    }

pub push_reserved-requires : goal.push_reserved-requires
push_reserved-requires c =
    let same = ap (λ (t : TableSeen). t.parts.requests) c.self.view_is in
    let next = ap (λ (l : List Request). length l) (subst (λ (l : List Request). all_due c.args.m (asked_after c.loop-request.after l) ≡ c.in-Some.request.now ∷ all_due c.args.m (asked_after (Some c.in-Some.request.now.nonce) l)) same c.in-Some.ensures.rest) in
    omega (arith, c.loop-request.invariant.room, next)

pub loop-request-smaller : goal.loop-request-smaller
loop-request-smaller c =
    let same = ap (λ (t : TableSeen). t.parts.requests) c.self.view_is in
    let next = ap (λ (l : List Request). length l) (subst (λ (l : List Request). all_due c.args.m (asked_after c.loop-request.after l) ≡ c.in-Some.request.now ∷ all_due c.args.m (asked_after (Some c.in-Some.request.now.nonce) l)) same c.in-Some.ensures.rest) in
    omega (arith, next)

pub loop-request-preserved : goal.loop-request-preserved
loop-request-preserved c =
    let m = c.args.m in
    let due = c.loop-request.due.items in
    let request = c.in-Some.request.now in
    let same = ap (λ (t : TableSeen). t.parts.requests) c.self.view_is in
    let next = subst (λ (l : List Request). all_due m (asked_after c.loop-request.after l) ≡ request ∷ all_due m (asked_after (Some request.nonce) l)) same c.in-Some.ensures.rest in
    let left = all_due m (asked_after (Some request.nonce) c.args.self.now.parts.requests) in
    let count = ap (λ (l : List Request). length l) next in
    record {
      whole = ap (λ (l : List Request). l ++ left) c.push_reserved.ensures.items
          ∙ append_assoc due (request ∷ []) left
          ∙ ap (λ (l : List Request). due ++ l) (sym next)
          ∙ c.loop-request.invariant.whole;
      room = omega (arith, c.loop-request.invariant.room, count, c.push_reserved.ensures.len, c.push_reserved.ensures.capacity);
    }

pub returns-clause-items : goal.returns-clause-items
returns-clause-items c =
    let m = c.args.m in
    let same = ap (λ (t : TableSeen). t.parts.requests) c.self.view_is in
    let none = none-left (all_due m (asked_after c.loop-request.after c.self.inside.queue.requests)) (sym c.in_default.ensures.first) in
    sym (append-nil c.loop-request.due.items)
    ∙ ap (λ (l : List Request). c.loop-request.due.items ++ l) (sym none)
    ∙ ap (λ (l : List Request). c.loop-request.due.items ++ all_due m (asked_after c.loop-request.after l)) same
    ∙ c.loop-request.invariant.whole

pub returns-clause-few : goal.returns-clause-few
returns-clause-few c =
    let kept = ap (λ (t : TableSeen). length t.parts.requests) c.self.view_is in
    let all = ap (λ (l : List Request). length l) (returns-clause-items c) in
    let few = due-few c.args.m c.args.self.now.parts.requests in
    omega (arith, kept, c.len.ensures.len, c.len.ensures.most, few, all, c.loop-request.due.ok.0)

pub returns-clause-owed : goal.returns-clause-owed
returns-clause-owed c =
    let same = ap (λ (t : TableSeen). t.parts.requests) c.self.view_is in
    let distinct = subst (λ (l : List Request). are_distinct l ≡ true) same c.len.ensures.distinct in
    subst (AreOwed (waiting c.args.m c.args.self.now.parts.requests)) (sym (returns-clause-items c)) (all_due-owed c.args.m c.args.self.now.parts.requests distinct)
