use Rattle.prefix_table.proofs.AscendLemmas.{forest_ascends}
use Rattle.prefix_table.proofs.FieldLemmas.{kept-most}
use Rattle.prefix_table.proofs.table.PrefixTable.len.Goals as goal

pub returns-clause-ascends : goal.returns-clause-ascends
returns-clause-ascends g c = rw (← c.self.view_is) (forest_ascends _ _ c.self.invariant.forest)

pub returns-clause-kept : goal.returns-clause-kept
returns-clause-kept g c = rw (← c.self.view_is) (kept-most _ _ _ _ _ c.self.invariant)
