use Rattle.std.proofs.Common.{drop, ap, sym, ◌∙◌}
use Rattle.keyed_list.specs.Keyed.{is_key}
use Rattle.keyed_list.specs.Lists.{last_where}
use Rattle.request_queue.specs.Found.{request_marks}
use Rattle.request_queue.specs.Queue.{asked_after}
use Rattle.request_queue.proofs.FoundLemmas.{behind-none, behind-place}
use Rattle.request_queue.proofs.searching.place_after.Goals as goal

pub returns-in-Some-place-clause-after : goal.returns-in-Some-place-clause-after
returns-in-Some-place-clause-after c =
    behind-place c.in-Some.nonce c.args.requests.now.items c.in-Some-place.place c.requires c.in-Some-place.ensures.within
    (c.in-Some-place.ensures.last ∙ ap (λ key. last_where (is_key request_marks key) c.args.requests.now.items) c.nonce.ensures)
    ∙ ap (λ after. asked_after after c.args.requests.now.items) (sym c.in-Some.is)

pub returns-in-None-clause-after : goal.returns-in-None-clause-after
returns-in-None-clause-after c =
    ap (λ n. drop n c.args.requests.now.items) c.len-end.ensures.len
    ∙ behind-none c.in-Some.nonce c.args.requests.now.items
    (c.in-None.ensures.last ∙ ap (λ key. last_where (is_key request_marks key) c.args.requests.now.items) c.nonce.ensures)
    ∙ ap (λ after. asked_after after c.args.requests.now.items) (sym c.in-Some.is)
