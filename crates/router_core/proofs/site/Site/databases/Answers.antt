use Rattle.std.proofs.Common.{sym, subst}
use Rattle.std.specs.List.{All}
use Rattle.lisp_settings.specs.Lawful.{IsLawfulDatabase}
use Rattle.lisp_settings.specs.declared.settings.Settings.{Settings}
use Rattle.router_core.proofs.StandLemmas.{databases-before}
use Rattle.router_core.proofs.site.Site.databases.Goals as goal

pub returns-clause-lawful : goal.returns-clause-lawful
returns-clause-lawful c = λ site.
    let inside = c.self.inside in
    subst (All IsLawfulDatabase) (sym c.as_slice.ensures)
    (databases-before inside.own.steps inside.settings.now.databases (subst (λ (s : Settings). All IsLawfulDatabase s.databases) (sym c.self.view_is) site.databases))
