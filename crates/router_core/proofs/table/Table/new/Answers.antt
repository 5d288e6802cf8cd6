use Rattle.std.proofs.Common.{sym, subst}
use Rattle.std.proofs.lemmas.Result.{IfOk-weaker}
use Rattle.router_model.specs.Journal.{statics}
use Rattle.router_model.specs.Parts.{Parts, Stands}
use Rattle.router_model.proofs.StandsLemmas.{statics-stand}
use Rattle.router_model.proofs.StandingLemmas.{lawful-may}
use Rattle.router_core.proofs.table.Table.new.Goals as goal

pub returns-clause-stands : goal.returns-clause-stands
returns-clause-stands c =
    let settings = c.args.settings.now in
    IfOk-weaker c.begun.result _ _ (λ table is. subst (λ (p : Parts). Stands settings p (statics settings)) (sym is) (statics-stand settings (lawful-may settings c.requires))) c.begun.ensures
