use Rattle.std.proofs.Common.{◌∙◌}
use Rattle.std.proofs.lemmas.Result.{err_from_is_err_and}
use Rattle.desk.proofs.SlotLemmas.{wrote-nothing}
use Rattle.desk.proofs.steady.SteadyDeskDesk.write_file.Goals as goal

pub returns-in_err-write-clause-desk : goal.returns-in_err-write-clause-desk
returns-in_err-write-clause-desk c =
    let p = err_from_is_err_and c.from_residual.result c.from_residual.ensures.1 in
    rw p.1 (c.in_err-write.ensures.err ∙ c.self.view_is ∙ wrote-nothing c.args.id.number c.args.self.now)
