use Rattle.std.proofs.Common.{◌∙◌, ◌≤◌, ℕ, List, length, ap, sym, subst}
use Rattle.lisp_settings.specs.declared.settings.OwnLocator.{OwnLocator}
use Rattle.lisp_settings.specs.declared.settings.Settings.{Settings}
use Rattle.router_core.proofs.StandLemmas.{length-ups}
use Rattle.router_core.proofs.site.Site.locators.Goals as goal

pub returns-clause-few : goal.returns-clause-few
returns-clause-few c = λ site.
    let inside = c.self.inside in
    subst (λ (n : ℕ). n ≤ 32)
    (ap (λ (s : Settings). length s.locators) (sym c.self.view_is) ∙ length-ups inside.own.ups inside.settings.now.locators ∙ sym (ap (λ (l : List OwnLocator). length l) c.as_slice.ensures))
    site.few_locators
