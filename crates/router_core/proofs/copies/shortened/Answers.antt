use Rattle.std.proofs.Common.{◌≡◌, ◌∙◌, ◌≤◌, List, length, sym, ap, subst}
use Rattle.std.proofs.lemmas.List.{take_all}
use Rattle.std.proofs.lemmas.Result.{IfOk-weaker}
use Rattle.mapping_records.specs.declared.record.Locator.{Locator}
use Rattle.mapping_records.specs.declared.record.Record.{Record}
use Rattle.router_model.specs.Hear.{shortened}
use Rattle.router_core.proofs.copies.shortened.Goals as goal

-- with few locators, all stay
few-stay : (mapping : Record) → length mapping.locators ≤ 32 → mapping ≡ shortened mapping
few-stay mapping few = ap (λ (l : List Locator). record mapping { locators = l }) (sym (take_all 32 mapping.locators few))

pub returns-then-locators-le-MOST_LOCATORS : goal.returns-then-locators-le-MOST_LOCATORS
returns-then-locators-le-MOST_LOCATORS c =
    let few = subst (λ (l : List Locator). length l ≤ 32) c.as_slice-locators.ensures c.if-locators-le-MOST_LOCATORS.true in
    IfOk-weaker c.copied.result _ _ (λ copy is. is ∙ few-stay c.args.mapping.now few) c.copied.ensures
