use Rattle.std.proofs.Common.{◌∙◌, sym}
use Rattle.desk.proofs.SlotLemmas.{given-reads}
use Rattle.desk.proofs.shelf.Shelf.read.Goals as goal

pub returns-clause-given : goal.returns-clause-given
returns-clause-given c given = given-reads c.self.inside.slots.items c.args.id.number (rw (← c.self.view_is) at given) ∙ sym c.read_slot.ensures.known
