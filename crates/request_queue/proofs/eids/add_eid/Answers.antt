use Rattle.std.proofs.Common.{◌+◌, cond, is_some, length, sym, subst, ap, ◌∙◌}
use Rattle.keyed_list.specs.Keyed.{greater}
use Rattle.prefix_table.proofs.FieldLemmas.{length-with_pair}
use Rattle.prefix_table.specs.Pairs.{Ascends}
use Rattle.request_queue.proofs.EidLemmas.{are-pushed, total-put}
use Rattle.request_queue.proofs.eids.add_eid.Goals as goal

pub returns-clause-eids : goal.returns-clause-eids
returns-clause-eids c requests are =
    let start = c.later-start.ensures ∙ ap (λ o. greater o c.args.request.now.start) c.get.ensures.value in
    rw (c.insert.ensures.pairs) (are-pushed c.args.eids.now.pairs requests are c.args.request.now c.later-start.result start (subst Ascends c.insert.ensures.pairs c.len.ensures.ascends))

pub returns-clause-total : goal.returns-clause-total
returns-clause-total c =
    let pairs = c.args.eids.now.pairs in
    total-put (is_some c.insert.result) (length pairs) c.args.eids.now.spare (length c.insert.new.self.pairs) c.insert.new.self.spare c.requires c.insert.ensures.spare
    (ap length c.insert.ensures.pairs ∙ length-with_pair c.args.request.now.eid c.later-start.result pairs ∙ ap (λ o. length pairs + cond (is_some o) 0 1) (sym c.insert.ensures.was))
