use Rattle.std.proofs.Common.{arith}
use Rattle.map_cache.proofs.EndedLemmas.{first-ended, first-later, lasting-without, length-less, none-ends}
use Rattle.map_cache.proofs.indexed.Indexed.first_ended.Goals as goal

pub returns-in_err-ending-clause-none : goal.returns-in_err-ending-clause-none
returns-in_err-ending-clause-none c is =
    rw (← c.self.view_is) (none-ends c.args.m c.self.inside.by_eid.mappings c.self.inside.endings.keys c.self.invariant.indexed.ends c.in_err-ending.ensures)

pub returns-then-from-ending-clause-none : goal.returns-then-from-ending-clause-none
returns-then-from-ending-clause-none c is =
    rw (← c.self.view_is) (first-later c.args.m c.self.inside.by_eid.mappings c.self.inside.endings.keys c.in_ok-ending.ending.now c.self.invariant.indexed.ends c.len.ensures.ascends c.in_ok-ending.ensures (omega (arith, c.from.ensures, c.if-from-ending.true)))

pub returns-clause-ended : goal.returns-clause-ended
returns-clause-ended c =
    let found = first-ended c.args.m c.self.inside.by_eid.mappings c.self.inside.endings.keys c.in_ok-ending.ending.now c.self.invariant.indexed.ends c.in_ok-ending.ensures (λ before. omega (arith, before, c.from.ensures, c.if-from-ending.false)) in
    rw (← c.self.view_is) (lasting-without c.args.m c.in_ok-ending.ending.now.eid c.self.inside.by_eid.mappings c.len-2.ensures.ascending found)

pub returns-clause-less : goal.returns-clause-less
returns-clause-less c =
    let found = first-ended c.args.m c.self.inside.by_eid.mappings c.self.inside.endings.keys c.in_ok-ending.ending.now c.self.invariant.indexed.ends c.in_ok-ending.ensures (λ before. omega (arith, before, c.from.ensures, c.if-from-ending.false)) in
    rw (← c.self.view_is) (length-less c.args.m c.in_ok-ending.ending.now.eid c.self.inside.by_eid.mappings c.len-2.ensures.ascending found)
