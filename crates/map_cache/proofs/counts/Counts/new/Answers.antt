use Rattle.std.proofs.Common.{◌∙◌, ap, rules, length, replicate}
use Rattle.map_cache.proofs.CountLemmas.{for_each-none}
use Rattle.map_cache.proofs.counts.Counts.new.Goals as goal

pub returns-clause-learned : goal.returns-clause-learned
returns-clause-learned c =
    c.in_ok-learned.ensures.items_if_clones_equal (λ y same. search rules)
    ∙ ap (λ limits. replicate (length limits) 0) c.as_slice.ensures.items
    ∙ for_each-none c.args.limits.now
