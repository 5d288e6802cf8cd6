use Rattle.std.proofs.Common.{[], ◌∷◌, length, ap, arith}
use Rattle.std.proofs.lemmas.List.{length-append}
use Rattle.request_queue.proofs.index.add_request.Goals as goal

pub returns-clause-len : goal.returns-clause-len
returns-clause-len c =
    let both = length-append c.args.requests.now.items (c.args.request ∷ []) in
    omega (arith, both, ap length c.push.ensures.items)

pub returns-clause-found : goal.returns-clause-found
returns-clause-found c = rw (c.push.ensures.items) (record {
  eids = c.add_eid.ensures.eids c.args.requests.now.items c.requires.found.eids;
  terms = c.add_term.ensures.terms c.args.requests.now.items c.requires.found.terms;
})
