use Rattle.std.proofs.Common.{◌∙◌}
use Rattle.desk.proofs.SlotLemmas.{moved-nothing}
use Rattle.desk.proofs.steady.SteadyDeskDesk.read_file.Goals as goal

pub returns-in_default-clause-desk : goal.returns-in_default-clause-desk
returns-in_default-clause-desk c = c.in_default.ensures.none ∙ c.self.view_is ∙ moved-nothing c.args.id.number c.args.self.now
