use Rattle.std.proofs.Common.{◌≡◌, ◌∷◌, [], refl, sym, ap, ◌∙◌, subst}
use Rattle.lisp_settings.specs.Lawful.{IsLawful}
use Rattle.mapping_records.proofs.EqualValue.{equal_eid, equal_prefix}
use Rattle.mapping_records.specs.declared.eid.Eid.{Eid}
use Rattle.trial_input.proofs.SettingsLemmas.{settings-lawful, site}
use Rattle.trial_input.proofs.settings.trial_settings.Goals as goal

pub returns-clause-settings : goal.returns-clause-settings
returns-clause-settings c =
    let locators = rw c.new-locators.ensures at c.in_ok-push.ensures.ok in
    let attachments = rw c.new-attachments.ensures at c.in_ok-push-2.ensures.ok in
    let databases : c.push-3.new.self ≡ site ∷ [] =
    (rw c.new-databases.ensures at c.in_ok-push-3.ensures.ok)
    ∙ ap (λ (eid : Eid). record { eid = eid; version = 0 } ∷ []) (equal_eid _ site.eid refl (equal_prefix _ site.eid.prefix refl refl)) in
    rw (c.new.ensures, c.new-2.ensures, c.new-3.ensures, locators, attachments, databases, c.in_ok-mappings.ensures) refl

pub returns-clause-lawful : goal.returns-clause-lawful
returns-clause-lawful c = subst IsLawful (sym (returns-clause-settings c)) (settings-lawful c.args.n c.requires)
