use Rattle.std.proofs.Common.{◌≡◌, ◌≤◌, ◌+◌, ◌*◌, ◌||◌, true, length}
use Rattle.std.specs.List.{list_any}
use Rattle.ordered_set.specs.Keys.{has}
use Rattle.map_cache.specs.Indexed.{name_order, names_as}
use Rattle.map_cache.specs.Limits.{most_locators}
use Rattle.map_cache.specs.Lists.{AllFew}
use Rattle.map_cache.specs.declared.keys.Name.{Name}
use Rattle.map_cache.proofs.names.names_of.Given as goal

-- the names so far and those of the mappings to come are all, and there is room for these
abbrev pub invariant-loop-mapping : goal.invariant-loop-mapping
invariant-loop-mapping l =
    (l.names.begun ≡ true)
    × (l.names.places ≡ l.places)
    × AllFew l.mapping-iterator
    × (length l.names.keys + most_locators * length l.mapping-iterator ≤ most_locators * l.places)
    × ((key : Name) → (has name_order key l.names.keys || list_any (names_as key) l.mapping-iterator) ≡ list_any (names_as key) l.by_eid.mappings)
