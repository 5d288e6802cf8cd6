use Rattle.std.proofs.Common.{◌∙◌, sym, arith}
use Rattle.map_cache.proofs.CountLemmas.{counted-gone, counted-nowhere, counted-one}
use Rattle.map_cache.proofs.counts.Counts.drop.Goals as goal

pub returns-in-Some-clause-learned : goal.returns-in-Some-clause-learned
returns-in-Some-clause-learned c =
    let found = rw (← c.self.view_is) at c.in-Some.ensures.found in
    let within = rw (← c.self.view_is) at c.in-Some.ensures.within in
    rw (← c.self.view_is) (counted-gone c.self.inside.limits c.self.inside.learned.items c.args.mapping.now c.in-Some.place c.index_mut.result.now c.self.invariant.0.instances c.index_mut.ensures.value found (omega (arith, within, c.self.invariant.1)))

pub returns-in_default-clause-learned : goal.returns-in_default-clause-learned
returns-in_default-clause-learned c =
    λ number is. is ∙ sym (counted-nowhere c.args.self.now.limits c.args.mapping.now number c.in_default.ensures.found)

pub overflow_sub-index_mut : goal.overflow_sub-index_mut
overflow_sub-index_mut c =
    let found = rw (← c.self.view_is) at c.in-Some.ensures.found in
    let within = rw (← c.self.view_is) at c.in-Some.ensures.within in
    let had = rw (← c.self.view_is) at c.requires in
    let one = counted-one c.self.inside.limits c.self.inside.learned.items c.args.mapping.now c.in-Some.place c.index_mut.result.now c.self.invariant.0.instances c.index_mut.ensures.value found (omega (arith, within, c.self.invariant.1)) had.0 had.1 in
    omega (arith, one)
