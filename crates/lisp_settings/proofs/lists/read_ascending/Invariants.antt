use Rattle.std.proofs.Common.{◌≡◌, List, drop, fold, length, [], is_eq, is_some}
use Rattle.std.specs.BTreeMap.{btree_map_len, get, insert_entry}
use Rattle.std.specs.List.{list_any}
use Rattle.toml.specs.View.{items_view}
use Rattle.lisp_settings.specs.Lists.{each}
use Rattle.lisp_settings.proofs.lists.read_ascending.Given as goal

abbrev pub invariant-loop-value : goal.invariant-loop-value
invariant-loop-value g l =
    (items : List g.row.T.Denot)
    × (each l.list (g.T.Item.reads l.known) g.T.Item.key g.T.Item.order [] (items_view l.tables)
    ≡ each l.list (g.T.Item.reads l.known) g.T.Item.key g.T.Item.order items (items_view (drop l.value-index l.tables)))
    × (l.sorted.entries ≡ fold (λ entries next. insert_entry g.T.Key.Ord.cmp entries (g.T.Item.key next) next) [] items)
    × ((key : g.row.T-Key.Denot) → is_some (get g.T.Key.Ord.cmp l.sorted key)
    ≡ list_any (λ item. is_eq (g.T.Item.order (g.T.Item.key item) key)) items)
    × (btree_map_len l.sorted ≡ length items)
