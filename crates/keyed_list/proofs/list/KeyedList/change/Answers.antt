use Rattle.std.proofs.Common.{arith}
use Rattle.keyed_list.proofs.list.KeyedList.change.Goals as goal

pub invariant_of-self : goal.invariant_of-self
invariant_of-self g c = (
  c.change_from.ensures.keyed c.self.inside.index.keys c.self.inside.ages.keys c.self.invariant.0,
  c.change_from.ensures.below c.self.inside.next c.self.invariant.1,
  record {
    few = omega (arith, c.change_from.ensures.len, c.change_from.ensures.spare, c.self.invariant.2.few);
    keys = omega (arith, c.change_from.ensures.len, c.change_from.ensures.spare, c.self.invariant.2.keys);
    ages = omega (arith, c.change_from.ensures.len, c.change_from.ensures.spare, c.self.invariant.2.ages);
  },
)

pub returns-clause-items : goal.returns-clause-items
returns-clause-items g c changed agrees = rw (← c.self.view_is) (c.change_from.ensures.items changed agrees)
