use Rattle.std.proofs.Common.{◌∙◌, ap, sym}
use Rattle.lisp_settings.specs.declared.settings.Settings.{Settings}
use Rattle.router_model.specs.Site.{is_own}
use Rattle.router_core.proofs.StandLemmas.{is_own-ups}
use Rattle.router_core.proofs.site.Site.is_own.Goals as goal

pub returns : goal.returns
returns c =
    let inside = c.self.inside in
    c.is_own.ensures
    ∙ ap (λ (l : _). is_own l c.args.address) c.as_slice.ensures
    ∙ sym (is_own-ups inside.own.ups inside.settings.now.locators c.args.address)
    ∙ ap (λ (s : Settings). is_own s.locators c.args.address) c.self.view_is
