use Rattle.std.proofs.Common.{None, subst, ap, ◌∙◌}
use Rattle.keyed_list.specs.Keyed.{latest}
use Rattle.prefix_table.specs.Pairs.{Ascends}
use Rattle.request_queue.specs.Found.{latest_start, request_marks}
use Rattle.request_queue.proofs.EidLemmas.{are-left, latest-start, pair-there}
use Rattle.request_queue.proofs.index.drop_request.Goals as goal

pub tell_latest-requires : goal.tell_latest-requires
tell_latest-requires c =
    pair-there c.args.index.now.eids.pairs c.args.requests.now.items c.requires.found.eids c.args.place c.remove-request.result c.remove-request.ensures.item

pub returns-clause-found : goal.returns-clause-found
returns-clause-found c =
    let left = c.remove-request.new.self.items in
    let eid = c.remove-request.result.eid in
    let latest_is =
    c.latest-latest.ensures
    ∙ ap (λ key. latest request_marks key left) c.eid.ensures
    ∙ latest-start eid None left
    ∙ ap (latest_start eid) c.remove-request.ensures.items in
    rw (c.remove-request.ensures.items) (record {
      eids = rw (c.tell_latest.ensures.pairs) (are-left c.args.index.now.eids.pairs c.args.requests.now.items c.requires.found.eids c.args.place c.remove-request.result c.remove-request.ensures.item c.latest-latest.result latest_is (subst Ascends c.tell_latest.ensures.pairs c.len.ensures.ascends));
      terms = c.drop_term.ensures.terms c.args.requests.now.items c.args.place c.requires.distinct c.remove-request.ensures.item c.requires.found.terms;
    })
