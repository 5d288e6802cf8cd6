use Rattle.std.proofs.Common.{◌≡◌, ◌<◌, ◌==◌, not, false, length, List, rules, refl, sym, subst, ap, ◌∙◌, arith}
use Rattle.lisp_settings.specs.Instances.{requests_in}
use Rattle.request_queue.specs.Lists.{all_rest, are_distinct, has_nonce, KeepsLimits}
use Rattle.request_queue.specs.Queue.{Queue, is_waiting, open_in, without_nonce}
use Rattle.request_queue.specs.declared.request.Request.{Request}
use Rattle.request_queue.proofs.DistinctLemmas.{distinct-push, none-without}
use Rattle.request_queue.proofs.DropLemmas.{length-filter_le}
use Rattle.request_queue.proofs.OpenLemmas.{count-filter, has-place, keeps-push, no-place}
use Rattle.request_queue.proofs.RestLemmas.{all_rest-lower, all_rest-push, fresh-rests}
use Rattle.request_queue.proofs.queue.RequestQueue.ask.Goals as goal

pub returns-in_err-reserve-clause-places : goal.returns-in_err-reserve-clause-places
returns-in_err-reserve-clause-places c =
    let fewer = length-filter_le (is_waiting c.args.m) c.args.self.now.requests in
    omega (arith, fewer, c.reserve.ensures.places, c.purge.ensures.places, ap (λ (l : List Request). length l) c.purge.ensures.requests)

pub invariant_of-self : goal.invariant_of-self
invariant_of-self c =
    let before : List Request = c.self.inside.requests.items in
    let x : Request = record { eid = c.args.eid; source = c.args.source; invoked = c.args.invoked; nonce = c.args.nonce; start = c.args.m; sent_again = 0 } in
    let low = c.min-self-inside.result in
    let left : before ≡ without_nonce c.args.nonce c.reserve.new.self.requests = ap (λ (queue : Queue). queue.requests) c.self.view_is ∙ c.answer.ensures.requests in
    let apart : has_nonce c.args.nonce before ≡ false = ap (has_nonce c.args.nonce) left ∙ none-without c.args.nonce c.reserve.new.self.requests in
    let place = has-place c.args.m c.args.eid.iid c.args.self.now.requests c.purge.new.self.requests c.args.self.now.limits c.purge.new.self.limits c.purge.ensures.requests c.purge.ensures.limits (sym c.if-not-has_place_in.false ∙ c.has_place_in.ensures) in
    let limits : c.self.inside.limits ≡ c.args.self.now.limits = ap (λ (queue : Queue). queue.limits) c.self.view_is ∙ c.answer.ensures.limits ∙ c.reserve.ensures.limits ∙ c.purge.ensures.limits in
    let few = count-filter (λ (request : Request). request.eid.iid == c.args.eid.iid) (λ request. not (request.nonce == c.args.nonce)) c.reserve.new.self.requests in
    let room : open_in c.args.eid.iid before < requests_in c.self.inside.limits c.args.eid.iid = omega (arith, place, few, ap (open_in c.args.eid.iid) left, ap (open_in c.args.eid.iid) (c.reserve.ensures.requests ∙ c.purge.ensures.requests), ap (λ l. requests_in l c.args.eid.iid) limits) in (
      subst (KeepsLimits c.self.inside.limits) (sym c.add_request.ensures.requests) (keeps-push c.self.inside.limits before x c.self.invariant.0 room),
      (
        ap (all_rest low) c.add_request.ensures.requests
            ∙ all_rest-push low before x (all_rest-lower low c.self.inside.wake before (omega (arith, c.min-self-inside.ensures)) c.self.invariant.1.0) (fresh-rests low x refl (omega (arith, c.min-self-inside.ensures, c.saturating_add.ensures))),
        (ap are_distinct c.add_request.ensures.requests ∙ distinct-push before x c.self.invariant.1.1.0 apart, c.add_request.ensures.found),
      ),
    )

pub returns-then-not-has_place_in-clause-full : goal.returns-then-not-has_place_in-clause-full
returns-then-not-has_place_in-clause-full c = (
  λ is. no-place c.args.m c.args.eid.iid c.args.self.now.requests c.purge.new.self.requests c.args.self.now.limits c.purge.new.self.limits c.purge.ensures.requests c.purge.ensures.limits (sym c.if-not-has_place_in.true ∙ c.has_place_in.ensures),
  λ full. refl,
)

pub returns-in_err-reserve-clause-full : goal.returns-in_err-reserve-clause-full
returns-in_err-reserve-clause-full c =
    let place = has-place c.args.m c.args.eid.iid c.args.self.now.requests c.purge.new.self.requests c.args.self.now.limits c.purge.new.self.limits c.purge.ensures.requests c.purge.ensures.limits (sym c.if-not-has_place_in.false ∙ c.has_place_in.ensures) in
    (search rules, λ full. absurd (omega (arith, place, full)))

pub returns-clause-full : goal.returns-clause-full
returns-clause-full c =
    let place = has-place c.args.m c.args.eid.iid c.args.self.now.requests c.purge.new.self.requests c.args.self.now.limits c.purge.new.self.limits c.purge.ensures.requests c.purge.ensures.limits (sym c.if-not-has_place_in.false ∙ c.has_place_in.ensures) in
    (λ is. cc, λ full. absurd (omega (arith, place, full)))

pub returns-clause-places : goal.returns-clause-places
returns-clause-places c =
    let fewer = length-filter_le (is_waiting c.args.m) c.args.self.now.requests in
    omega (arith, fewer, c.add_request.ensures.places, c.add_request.ensures.total, ap (λ (queue : Queue). queue.places) c.self.view_is, c.answer.ensures.places, c.reserve.ensures.places, c.purge.ensures.places, ap (λ (l : List Request). length l) c.purge.ensures.requests)

pub returns-clause-spare : goal.returns-clause-spare
returns-clause-spare c =
    let added = c.add_request.ensures in
    omega (arith, ap (λ (queue : Queue). queue.spare) c.self.view_is, added.len, added.room, added.least, c.in_ok-reserve.ensures.ok, c.answer.ensures.spare, c.reserve.ensures.spare, c.purge.ensures.spare)

pub returns-clause-total : goal.returns-clause-total
returns-clause-total c =
    let added = c.add_request.ensures in
    omega (arith, ap (λ (queue : Queue). queue.spare) c.self.view_is, ap (λ (queue : Queue). length queue.requests) c.self.view_is, added.len, added.room, added.least, c.in_ok-reserve.ensures.ok, c.answer.ensures.spare, c.answer.ensures.total, c.reserve.ensures.at_most, ap (λ (l : List Request). length l) c.reserve.ensures.requests, c.purge.ensures.total, ap (λ (l : List Request). length l) c.purge.ensures.requests)

pub returns-in_err-reserve-clause-total : goal.returns-in_err-reserve-clause-total
returns-in_err-reserve-clause-total c =
    omega (arith, c.reserve.ensures.at_most, ap (λ (l : List Request). length l) c.reserve.ensures.requests, c.purge.ensures.total, ap (λ (l : List Request). length l) c.purge.ensures.requests)
