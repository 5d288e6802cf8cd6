use Rattle.sharing.proofs.RoundLemmas.{begins-none, ready-begun}
use Rattle.sharing.proofs.gathering.begun.Goals as goal

pub returns-in-Ok-clause-ready : goal.returns-in-Ok-clause-ready
returns-in-Ok-clause-ready g c =
    rw c.new-in-Ok.ensures.items
    (ready-begun c.args.settings.now c.in_ok-table.table.parts c.in-Ok.published c.args.crew.now.round c.requires.lawful c.in_ok-table.ensures.parts c.in_ok-table.ensures.stands c.in-Ok.ensures c.requires.round)

pub returns-in-Ok-clause-begins : goal.returns-in-Ok-clause-begins
returns-in-Ok-clause-begins g c = rw c.new-in-Ok.ensures.items (begins-none c.args.settings.now c.in-Ok.published c.args.crew.now.round c.in-Ok.ensures)
