use Rattle.std.proofs.Common.{◌≡◌, drop, []}
use Rattle.toml.specs.View.{items_view}
use Rattle.lisp_settings.specs.Lists.{each}
use Rattle.lisp_settings.proofs.lists.read_items.Given as goal

abbrev pub invariant-loop-value : goal.invariant-loop-value
invariant-loop-value g l =
    each l.list (g.T.Item.reads l.known) g.T.Item.key g.T.Item.order [] (items_view l.tables)
    ≡ each l.list (g.T.Item.reads l.known) g.T.Item.key g.T.Item.order l.items.items (items_view (drop l.value-index l.tables))
