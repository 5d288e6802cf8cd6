use Rattle.std.proofs.Common.{◌∙◌, sym}
use Rattle.prefix_table.proofs.FieldLemmas.{table_taken, table_missed}
use Rattle.prefix_table.proofs.table.PrefixTable.remove.Goals as goal

pub invariant_of-self : goal.invariant_of-self
invariant_of-self g c =
    table_taken _ _ _ _ c.args.eid.now c.take-was.result _ _ _ _ c.self.invariant c.take-was.ensures.taken c.take-was.ensures.capacity (sym c.is_some.ensures ∙ c.if-is_some.true)

pub invariant_of-self-else-is_some : goal.invariant_of-self-else-is_some
invariant_of-self-else-is_some g c =
    table_missed _ _ _ _ c.args.eid.now c.take-was.result _ _ _ _ c.self.invariant c.take-was.ensures.taken c.take-was.ensures.capacity (sym c.is_some.ensures ∙ c.if-is_some.false)
