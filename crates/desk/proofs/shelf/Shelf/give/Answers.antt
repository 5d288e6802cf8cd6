use Rattle.std.proofs.Common.{arith}
use Rattle.desk.proofs.SlotLemmas.{more-slot, fresh-slot}
use Rattle.desk.proofs.shelf.Shelf.give.Goals as goal

pub returns-in_ok-push-in-Ok-clause-given : goal.returns-in_ok-push-in-Ok-clause-given
returns-in_ok-push-in-Ok-clause-given c =
    let d = c.self.inside in
    rw (c.in_ok-push-in-Ok.ensures.items, ← c.self.view_is) (more-slot d.files d.slots.items d.said c.in-Ok.number c.args.slot (omega (arith, c.in-Ok.ensures, c.len.ensures)))

pub returns-in_ok-push-in-Ok-clause-fresh : goal.returns-in_ok-push-in-Ok-clause-fresh
returns-in_ok-push-in-Ok-clause-fresh c =
    let d = c.self.inside in
    rw (← c.self.view_is) (fresh-slot d.files d.slots.items d.said c.in-Ok.number (omega (arith, c.in-Ok.ensures, c.len.ensures)))
