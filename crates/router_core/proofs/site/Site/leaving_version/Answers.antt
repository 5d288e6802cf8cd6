use Rattle.std.proofs.Common.{◌∙◌, ◌≤◌, ℕ, Bool, List, IfSome, Option, option_map, ap, sym, subst}
use Rattle.std.specs.List.{All}
use Rattle.octets.specs.Rules.{first_failing}
use Rattle.ip_headers.specs.Ip.{source_of}
use Rattle.lisp_settings.specs.Home.{home_of}
use Rattle.lisp_settings.specs.Lawful.{IsLawfulDatabase}
use Rattle.lisp_settings.specs.declared.settings.Database.{Database}
use Rattle.lisp_settings.specs.declared.settings.Settings.{Settings}
use Rattle.router_log.specs.declared.verdict.Verdict.{Verdict}
use Rattle.router_model.specs.Decide.{home_version, site_cases}
use Rattle.router_model.specs.Standing.{stood}
use Rattle.router_model.proofs.StoodLemmas.{home-stood}
use Rattle.router_core.proofs.BoundLemmas.{home-lawful, home-versioned}
use Rattle.router_core.proofs.StandLemmas.{cases-by, databases-before}
use Rattle.router_core.proofs.site.Site.leaving_version.Goals as goal

pub stood_version-requires : goal.stood_version-requires
stood_version-requires c =
    let inside = c.self.inside in
    let databases = inside.settings.now.databases in
    let lawful = databases-before inside.own.steps databases (subst (λ (s : Settings). All IsLawfulDatabase s.databases) (sym c.self.view_is) c.requires.databases) in
    (subst (λ (o : Option Database). IfSome o IsLawfulDatabase) (sym c.in-Ok.ensures.prefix) (home-lawful databases c.args.iid (source_of c.args.header.now) lawful)).version

pub returns-in-Ok-clause-leaves : goal.returns-in-Ok-clause-leaves
returns-in-Ok-clause-leaves c =
    let inside = c.self.inside in
    ap (λ (s : Settings). first_failing (site_cases s c.args.iid c.args.header.now)) (sym c.self.view_is)
    ∙ ap (λ (cases : List (Bool × Verdict)). first_failing cases) (cases-by inside.settings.now inside.own c.args.iid c.args.header.now)
    ∙ c.in-Ok.ensures.leaves

pub returns-in-Ok-clause-version : goal.returns-in-Ok-clause-version
returns-in-Ok-clause-version c =
    let inside = c.self.inside in
    let source = source_of c.args.header.now in
    c.stood_version.ensures
    ∙ ap (λ (o : Option Database). home_version (option_map (stood inside.own.steps) o)) c.in-Ok.ensures.prefix
    ∙ sym (ap home_version (home-stood inside.own.steps inside.settings.now.databases c.args.iid source))
    ∙ ap (λ (s : Settings). home_version (home_of s.databases c.args.iid source)) c.self.view_is

pub returns-in-Ok-clause-bits : goal.returns-in-Ok-clause-bits
returns-in-Ok-clause-bits c =
    subst (λ (n : ℕ). n ≤ 4095) (sym (returns-in-Ok-clause-version c))
    (home-versioned c.args.self.now.databases c.args.iid (source_of c.args.header.now) c.requires.databases)

pub returns-in-Err-clause-stays : goal.returns-in-Err-clause-stays
returns-in-Err-clause-stays c =
    let inside = c.self.inside in
    ap (λ (s : Settings). first_failing (site_cases s c.args.iid c.args.header.now)) (sym c.self.view_is)
    ∙ ap (λ (cases : List (Bool × Verdict)). first_failing cases) (cases-by inside.settings.now inside.own c.args.iid c.args.header.now)
    ∙ c.in-Err.ensures.stays
