use Rattle.std.proofs.Common.{not, arith, sym, ◌∙◌, ap}
use Rattle.prefix_table.proofs.EditLemmas.{none_from_test}
use Rattle.prefix_table.proofs.FieldLemmas.{table_new, table_same, room_for}
use Rattle.prefix_table.proofs.table.PrefixTable.insert.Goals as goal

pub invariant_of-self : goal.invariant_of-self
invariant_of-self g c =
    let missing = c.is_none.ensures ∙ ap not c.if-is_none.true in
    table_new _ _ _ _ c.args.eid c.args.value c.put-was.result _ _ _ _ c.self.invariant c.put-was.ensures.put c.put-was.ensures.capacity missing ((rw (← c.self.view_is) at c.requires) (sym c.put-was.ensures.put.found ∙ none_from_test c.put-was.result missing))

pub invariant_of-self-else-is_none : goal.invariant_of-self-else-is_none
invariant_of-self-else-is_none g c =
    table_same _ _ _ _ c.args.eid c.args.value c.put-was.result _ _ _ _ c.self.invariant c.put-was.ensures.put c.put-was.ensures.capacity (c.is_none.ensures ∙ ap not c.if-is_none.false)

pub put-was-requires-clause-room : goal.put-was-requires-clause-room
put-was-requires-clause-room g c missing =
    let most = room_for _ _ _ _ _ c.self.invariant in
    omega (arith, most.0, (rw (← c.self.view_is) at c.requires) missing)

pub put-was-requires-clause-place : goal.put-was-requires-clause-place
put-was-requires-clause-place g c missing =
    let most = room_for _ _ _ _ _ c.self.invariant in
    omega (arith, most.1, c.self.inside.roots.ok.0, (rw (← c.self.view_is) at c.requires) missing)
