use Rattle.std.proofs.Common.{rules, ◌-◌, ap, ◌∙◌}
use Rattle.keyed_list.proofs.CountLemmas.{young-count}
use Rattle.keyed_list.proofs.finding.count_young.Goals as goal

pub returns : goal.returns
returns g c =
    ap (λ n. n - c.place.result) c.len-all.ensures.len
    ∙ young-count g.T.Keyed.marks_of c.args.now c.args.life c.args.list.now.items c.args.index.now.keys c.args.ages.now.keys c.requires c.len-all.ensures.ascends c.place.result c.place.ensures.within (search rules) (search rules)
