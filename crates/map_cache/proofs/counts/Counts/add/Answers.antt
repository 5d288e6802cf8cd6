use Rattle.std.proofs.Common.{◌∙◌, arith}
use Rattle.map_cache.proofs.CountLemmas.{counted-come, counted-nowhere}
use Rattle.map_cache.proofs.counts.Counts.add.Goals as goal

pub returns-in-Some-clause-learned : goal.returns-in-Some-clause-learned
returns-in-Some-clause-learned c =
    let found = rw (← c.self.view_is) at c.in-Some.ensures.found in
    let within = rw (← c.self.view_is) at c.in-Some.ensures.within in
    rw (← c.self.view_is) (counted-come c.self.inside.limits c.self.inside.learned.items c.args.mapping.now c.in-Some.place c.index_mut.result.now c.self.invariant.0.instances c.index_mut.ensures.value found (omega (arith, within, c.self.invariant.1)))

pub returns-in_default-clause-learned : goal.returns-in_default-clause-learned
returns-in_default-clause-learned c =
    λ number is. is ∙ counted-nowhere c.args.self.now.limits c.args.mapping.now number c.in_default.ensures.found
