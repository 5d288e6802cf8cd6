use Rattle.std.proofs.Common.{◌≡◌, List, option_copied, true, sym, subst, ap, ◌∙◌}
use Rattle.std.specs.List.{slice_get}
use Rattle.request_queue.specs.Lists.{all_rest, are_distinct}
use Rattle.request_queue.specs.Queue.{Queue, all_due, asked_after}
use Rattle.request_queue.specs.declared.request.Request.{Request}
use Rattle.request_queue.proofs.AgainLemmas.{due-clauses}
use Rattle.request_queue.proofs.RestLemmas.{none-due-after}
use Rattle.request_queue.proofs.queue.RequestQueue.next_due.Goals as goal

pub returns-then-m-self-clause-first : goal.returns-then-m-self-clause-first
returns-then-m-self-clause-first c =
    let resting : all_rest c.self.inside.wake c.args.self.now.requests ≡ true = subst (λ (queue : Queue). all_rest c.self.inside.wake queue.requests ≡ true) c.self.view_is c.self.invariant.1.0 in
    ap (λ (l : List Request). slice_get l 0) (sym (none-due-after c.args.after c.args.m c.self.inside.wake c.args.self.now.requests c.if-m-self.true resting))

pub returns-clause-rest : goal.returns-clause-rest
returns-clause-rest c =
    let distinct : are_distinct c.args.self.now.requests ≡ true = subst (λ (queue : Queue). are_distinct queue.requests ≡ true) c.self.view_is c.self.invariant.1.1.0 in
    let first : option_copied c.first_due.result ≡ slice_get (all_due c.args.m (asked_after c.args.after c.args.self.now.requests)) 0 =
    c.first_due.ensures ∙ ap (λ (l : List Request). slice_get (all_due c.args.m l) 0) (c.place_after-from.ensures.after ∙ ap (λ (queue : Queue). asked_after c.args.after queue.requests) c.self.view_is) in
    (due-clauses c.args.after c.args.m (option_copied c.first_due.result) c.args.self.now.requests distinct first).0

pub returns-clause-may : goal.returns-clause-may
returns-clause-may c =
    let distinct : are_distinct c.args.self.now.requests ≡ true = subst (λ (queue : Queue). are_distinct queue.requests ≡ true) c.self.view_is c.self.invariant.1.1.0 in
    let first : option_copied c.first_due.result ≡ slice_get (all_due c.args.m (asked_after c.args.after c.args.self.now.requests)) 0 =
    c.first_due.ensures ∙ ap (λ (l : List Request). slice_get (all_due c.args.m l) 0) (c.place_after-from.ensures.after ∙ ap (λ (queue : Queue). asked_after c.args.after queue.requests) c.self.view_is) in
    (due-clauses c.args.after c.args.m (option_copied c.first_due.result) c.args.self.now.requests distinct first).1
