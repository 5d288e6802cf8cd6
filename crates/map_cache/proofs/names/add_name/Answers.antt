use Rattle.std.proofs.Common.{◌||◌, ap, ◌∙◌}
use Rattle.ordered_set.specs.Keys.{has}
use Rattle.map_cache.specs.Indexed.{name_order}
use Rattle.map_cache.proofs.NameLemmas.{ties-by}
use Rattle.map_cache.proofs.names.add_name.Goals as goal

pub returns-then-locator-clause-members : goal.returns-then-locator-clause-members
returns-then-locator-clause-members c key =
    c.insert.ensures.members key
    ∙ ap (λ b. b || has name_order key c.args.set.now.keys) (ties-by key c.args.eid.now c.args.locator.now c.if-locator.true)
