use Rattle.std.proofs.Common.{◌==◌, not, refl, ap, ◌∙◌}
use Rattle.keyed_list.specs.Keyed.{is_key}
use Rattle.keyed_list.specs.Lists.{last_where}
use Rattle.request_queue.specs.Found.{request_marks}
use Rattle.request_queue.specs.Queue.{Queue, without_nonce}
use Rattle.request_queue.specs.declared.request.Request.{Request}
use Rattle.request_queue.proofs.DropLemmas.{dropped-invariant, dropped-items, dropped-less, dropped-none, dropped-places, dropped-spare, dropped-step, dropped-total}
use Rattle.request_queue.proofs.FoundLemmas.{all-without, nonce-there}
use Rattle.request_queue.proofs.queue.RequestQueue.answer.Goals as goal

pub loop-place-init : goal.loop-place-init
loop-place-init c = (
  dropped-none (λ (request : Request). not (request.nonce == c.args.nonce)) c.self.inside.requests c.self.inside.index c.self.invariant.1.1.0 c.self.invariant.1.1.1,
  refl,
  refl,
  refl,
)

pub drop_request-requires-clause-distinct : goal.drop_request-requires-clause-distinct
drop_request-requires-clause-distinct c = c.loop-place.invariant.0.distinct

pub drop_request-requires-clause-found : goal.drop_request-requires-clause-found
drop_request-requires-clause-found c = c.loop-place.invariant.0.found

pub loop-place-smaller : goal.loop-place-smaller
loop-place-smaller c =
    dropped-less c.loop-place.self-inside.requests c.drop_request.new.requests c.in-Some.place c.in-Some.ensures.within c.drop_request.ensures.requests

pub loop-place-preserved : goal.loop-place-preserved
loop-place-preserved c = (
  dropped-step (λ (request : Request). not (request.nonce == c.args.nonce)) c.self.inside.requests c.loop-place.self-inside.requests c.drop_request.new.requests c.self.inside.index c.loop-place.self-inside.index c.drop_request.new.index c.in-Some.place c.loop-place.invariant.0 c.in-Some.ensures.within
      (nonce-there c.args.nonce c.loop-place.self-inside.requests.items c.in-Some.place (c.in-Some.ensures.last ∙ ap (λ key. last_where (is_key request_marks key) c.loop-place.self-inside.requests.items) c.nonce.ensures))
      c.drop_request.ensures.requests c.drop_request.ensures.room c.drop_request.ensures.found c.drop_request.ensures.places c.drop_request.ensures.least c.drop_request.ensures.total c.drop_request.ensures.rooms,
  c.loop-place.invariant.1,
  c.loop-place.invariant.2,
  c.loop-place.invariant.3,
)

pub invariant_of-self : goal.invariant_of-self
invariant_of-self c =
    let test = λ (request : Request). not (request.nonce == c.args.nonce) in
    let all = all-without c.args.nonce c.loop-place.self-inside.requests.items (c.in_default.ensures.last ∙ ap (λ key. last_where (is_key request_marks key) c.loop-place.self-inside.requests.items) c.nonce.ensures) in
    rw (c.loop-place.invariant.1, c.loop-place.invariant.2) (dropped-invariant test c.self.inside.requests c.loop-place.self-inside.requests c.self.inside.index c.loop-place.self-inside.index c.loop-place.invariant.0 c.self.inside.wake c.self.inside.limits all c.self.invariant)

pub returns-clause-requests : goal.returns-clause-requests
returns-clause-requests c =
    let test = λ (request : Request). not (request.nonce == c.args.nonce) in
    let all = all-without c.args.nonce c.loop-place.self-inside.requests.items (c.in_default.ensures.last ∙ ap (λ key. last_where (is_key request_marks key) c.loop-place.self-inside.requests.items) c.nonce.ensures) in
    dropped-items test c.self.inside.requests c.loop-place.self-inside.requests c.self.inside.index c.loop-place.self-inside.index c.loop-place.invariant.0 all ∙ ap (λ (queue : Queue). without_nonce c.args.nonce queue.requests) c.self.view_is

pub returns-clause-spare : goal.returns-clause-spare
returns-clause-spare c =
    rw (← c.self.view_is) (dropped-spare (λ (request : Request). not (request.nonce == c.args.nonce)) c.self.inside.requests c.loop-place.self-inside.requests c.self.inside.index c.loop-place.self-inside.index c.loop-place.invariant.0)

pub returns-clause-places : goal.returns-clause-places
returns-clause-places c =
    rw (← c.self.view_is) (dropped-places (λ (request : Request). not (request.nonce == c.args.nonce)) c.self.inside.requests c.loop-place.self-inside.requests c.self.inside.index c.loop-place.self-inside.index c.loop-place.invariant.0)

pub returns-clause-total : goal.returns-clause-total
returns-clause-total c =
    rw (← c.self.view_is) (dropped-total (λ (request : Request). not (request.nonce == c.args.nonce)) c.self.inside.requests c.loop-place.self-inside.requests c.self.inside.index c.loop-place.self-inside.index c.loop-place.invariant.0)

pub returns-clause-limits : goal.returns-clause-limits
returns-clause-limits c = c.loop-place.invariant.2 ∙ ap (λ (queue : Queue). queue.limits) c.self.view_is
