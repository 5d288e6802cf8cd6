use Rattle.std.proofs.Common.{◌∙◌, sym}
use Rattle.std.proofs.lemmas.Result.{IfOk-weaker}
use Rattle.desk.proofs.SlotLemmas.{given-writes}
use Rattle.desk.proofs.shelf.Shelf.write.Goals as goal

pub returns-clause-given : goal.returns-clause-given
returns-clause-given c given =
    let known = given-writes c.self.inside.slots.items c.args.id.number (rw (← c.self.view_is) at given) in
    IfOk-weaker c.write_slot.result _ _ (λ done is. known ∙ sym is) c.write_slot.ensures.known
