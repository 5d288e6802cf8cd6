-- Facts of the list of a cache's mappings.
use Rattle.std.specs.Prelude.{◌≡◌, ◌≤◌, ℕ, true, List, [], ◌∷◌, All, IsFalse, is_some, length, take, drop, if◌then◌else◌}
use Rattle.std.specs.Ordering.{is_lt}
use Rattle.std.specs.declared.cmp.Ordering.TheVariants.{Less}
use Rattle.mapping_records.specs.Orders.{eid_order}
use Rattle.mapping_records.specs.declared.eid.Eid.{Eid}
use Rattle.map_cache.specs.Cache.{exact, lasts}
use Rattle.map_cache.specs.Limits.{most_locators}
use Rattle.map_cache.specs.declared.mapping.Mapping.{Mapping}

-- an EID is below those of all mappings
abbrev pub IsBelow : Eid → List Mapping → Type 0
IsBelow eid [] = Unit {0}
IsBelow eid (mapping ∷ others) = (eid_order eid mapping.eid ≡ Less) × IsBelow eid others

-- EIDs of mappings ascend, so that each is there once
abbrev pub IsAscending : List Mapping → Type 0
IsAscending [] = Unit {0}
IsAscending (mapping ∷ others) = IsBelow mapping.eid others × IsAscending others

-- an EID is above those of all mappings
abbrev pub IsAbove : Eid → List Mapping → Type 0
IsAbove eid [] = Unit {0}
IsAbove eid (mapping ∷ others) = (eid_order mapping.eid eid ≡ Less) × IsAbove eid others

-- the place of an EID among mappings: those before it have lesser EIDs, and those from it on don't
pub record IsPlace (eid : Eid) (mappings : List Mapping) (place : ℕ) : Type 0 where
  pub within : place ≤ length mappings
  pub before : IsAbove eid (take place mappings)
  pub behind : All (λ mapping. IsFalse (is_lt (eid_order mapping.eid eid))) (drop place mappings)

-- no mapping has ended at a moment
abbrev pub AllLast : ℕ → List Mapping → Type 0
AllLast now [] = Unit {0}
AllLast now (mapping ∷ others) = (lasts now mapping ≡ true) × AllLast now others

-- a mapping has no more locators than is allowed
abbrev pub IsFew : Mapping → Type 0
IsFew mapping = length mapping.details.locators ≤ most_locators

-- each mapping has no more locators than is allowed
abbrev pub AllFew : List Mapping → Type 0
AllFew [] = Unit {0}
AllFew (mapping ∷ others) = IsFew mapping × AllFew others

-- how many of a cache's mappings have that EID: 1 or 0
abbrev pub count_of : Eid → List Mapping → ℕ
count_of eid mappings = if is_some (exact mappings eid) then 1 else 0
