use Rattle.std.proofs.Common.{rules, ◌∙◌}
use Rattle.prefix_table.specs.Longest.{seen}
use Rattle.request_queue.proofs.EidLemmas.{covered-is}
use Rattle.request_queue.proofs.eids.is_covered.Goals as goal

pub returns-clause-covered : goal.returns-clause-covered
returns-clause-covered c requests are =
    c.is_some.ensures
    ∙ covered-is c.args.eids.now.pairs requests are _ seen c.args.m c.args.eid.now c.longest_where.result c.longest_where.ensures.longest (λ refused. refused) (λ v b says. search rules)
