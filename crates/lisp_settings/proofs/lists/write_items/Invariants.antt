use Rattle.std.proofs.Common.{suc, take, All}
use Rattle.toml.specs.View.{items_view}
use Rattle.lisp_settings.specs.Writing.{IsArrayOf}
use Rattle.lisp_settings.proofs.lists.write_items.Given as goal

abbrev pub invariant-loop-item : goal.invariant-loop-item
invariant-loop-item g l =
    (known : g.row.T-Known.Denot) → All (g.T.Item.fits known) l.items
    → IsArrayOf (g.T.Item.reads known) g.T.Item.key g.T.Item.order (suc g.T.Item.nested) (take l.item-index l.items) (items_view l.array.items)
