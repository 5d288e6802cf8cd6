use Rattle.std.proofs.Common.{◌≡◌, ◌∙◌, IfSome, Some, Option, ap, option_map, sym, subst}
use Rattle.std.specs.List.{All}
use Rattle.lisp_settings.specs.Home.{home_of}
use Rattle.lisp_settings.specs.Lawful.{IsLawfulDatabase}
use Rattle.lisp_settings.specs.declared.settings.Database.{Database}
use Rattle.lisp_settings.specs.declared.settings.Settings.{Settings}
use Rattle.router_model.specs.Standing.{stood}
use Rattle.router_model.proofs.StoodLemmas.{home-stood}
use Rattle.router_core.proofs.BoundLemmas.{home-lawful}
use Rattle.router_core.proofs.StandLemmas.{databases-before}
use Rattle.router_core.proofs.site.Site.home.Goals as goal

pub stood-requires : goal.stood-requires
stood-requires c =
    let inside = c.self.inside in
    let databases = inside.settings.now.databases in
    let lawful = databases-before inside.own.steps databases (subst (λ (s : Settings). All IsLawfulDatabase s.databases) (sym c.self.view_is) c.requires.databases) in
    let found : Some c.in-Some.database.now ≡ home_of databases c.args.iid c.args.address.now = ap (option_map (λ database. database.now)) (sym c.in-Some.is) ∙ c.home.ensures in
    (subst (λ (o : Option Database). IfSome o IsLawfulDatabase) (sym found) (home-lawful databases c.args.iid c.args.address.now lawful)).version

pub returns-in-None : goal.returns-in-None
returns-in-None c =
    let inside = c.self.inside in
    ap (option_map (stood inside.own.steps)) (ap (option_map (λ database. database.now)) (sym c.in-None.is) ∙ c.home.ensures)
    ∙ sym (home-stood inside.own.steps inside.settings.now.databases c.args.iid c.args.address.now)
    ∙ ap (λ (s : Settings). home_of s.databases c.args.iid c.args.address.now) c.self.view_is

pub returns-in-Some : goal.returns-in-Some
returns-in-Some c =
    let inside = c.self.inside in
    ap (λ (d : Database). Some d) c.stood.ensures
    ∙ ap (option_map (stood inside.own.steps)) (ap (option_map (λ database. database.now)) (sym c.in-Some.is) ∙ c.home.ensures)
    ∙ sym (home-stood inside.own.steps inside.settings.now.databases c.args.iid c.args.address.now)
    ∙ ap (λ (s : Settings). home_of s.databases c.args.iid c.args.address.now) c.self.view_is
