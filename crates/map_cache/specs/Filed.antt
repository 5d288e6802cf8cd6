-- How mappings are kept by EID. No public clause cites this file.
use Rattle.std.specs.Prelude.{◌≡◌, ℕ, List, [], ◌∷◌, length}
use Rattle.mapping_records.specs.declared.eid.Eid.{Eid}
use Rattle.node_store.specs.Store.{Store, IsLive}
use Rattle.named_list.specs.Named.{items_at, IsNamedList}
use Rattle.map_cache.specs.Indexed.{all_stays}
use Rattle.map_cache.specs.Lists.{IsAscending}
use Rattle.map_cache.specs.declared.stay.Stay.{Stay}
use Rattle.map_cache.specs.declared.mapping.Mapping.{Mapping}

-- the names in pairs of EID and stay
abbrev pub names_in : List (Eid × Stay) → List ℕ
names_in [] = []
names_in (pair ∷ pairs) = pair.1.name ∷ names_in pairs

-- the mappings in a store under the names of pairs of EID and stay
abbrev pub mappings_at : Store Mapping → List (Eid × Stay) → List Mapping
mappings_at store pairs = items_at store (names_in pairs)

-- the store has a mapping under the name in a pair of EID and stay
abbrev pub IsNamed : Store Mapping → Eid × Stay → Type 0
IsNamed store pair = IsLive store pair.1.name

-- the pairs are those of the store's mappings: each mapping has one pair, of its EID and its stay, in order of EID
pub record IsFiled (store : Store Mapping) (pairs : List (Eid × Stay)) : Type 0 where
  pub named : IsNamedList store (names_in pairs) (length store.slots)
  pub ascending : IsAscending (mappings_at store pairs)
  pub stay : pairs ≡ all_stays (names_in pairs) (mappings_at store pairs)

-- mappings by EID as callers see them: the mappings, for how many more there is room, for how many some list has room,
-- and how many items the lists have
pub record Filed : Type 0 where
  pub mappings : List Mapping
  pub spare : ℕ
  pub room : ℕ
  pub kept : ℕ
