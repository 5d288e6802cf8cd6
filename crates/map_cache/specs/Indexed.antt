-- How a cache finds its mappings. No public clause cites this file.
use Rattle.std.specs.Prelude.{◌≡◌, ◌≤◌, ◌+◌, ◌-◌, ◌*◌, ◌^◌, ◌==◌, ◌&&◌, ◌||◌, ℕ, nat_lt, not, true, Bool, List, [], ◌∷◌, length, map, if◌then◌else◌}
use Rattle.std.specs.List.{list_any}
use Rattle.std.specs.Cmp.{IsTotalOrder}
use Rattle.std.proofs.lemmas.Cmp.{nat_cmp_total, on_total, then_total}
use Rattle.mapping_records.proofs.OrderLemmas.{addr_order-total, eid_order-total}
use Rattle.std.specs.Ordering.{nat_cmp, ordering_then}
use Rattle.std.specs.declared.cmp.Ordering.{Ordering}
use Rattle.lisp_settings.specs.declared.settings.LimitItem.{LimitItem}
use Rattle.mapping_records.specs.Eids.{same_address, same_eid}
use Rattle.mapping_records.specs.Orders.{addr_order, eid_order}
use Rattle.mapping_records.specs.declared.eid.Eid.{Eid}
use Rattle.mapping_records.specs.declared.record.Locator.{Locator}
use Rattle.ordered_set.specs.Keys.{has}
use Rattle.map_cache.specs.Cache.{learned_in}
use Rattle.map_cache.specs.Limits.{most_mappings}
use Rattle.map_cache.specs.Lists.{AllFew}
use Rattle.map_cache.specs.declared.stay.Stay.{Stay}
use Rattle.map_cache.specs.declared.keys.Ending.{Ending}
use Rattle.map_cache.specs.declared.keys.Name.{Name}
use Rattle.map_cache.specs.declared.mapping.Mapping.{Mapping}

-- ### by EID

-- whether no moment ends a mapping: it is fixed, or its end is past the last moment
abbrev pub is_endless : Bool → ℕ → Bool
is_endless fixed end = fixed || nat_lt (2 ^ 64 - 1) end

-- the stay of a mapping of that name that is fixed or ends at a moment
abbrev pub stay_until : Bool → ℕ → ℕ → Stay
stay_until fixed end name = record {
  end = if is_endless fixed end then 0 else end;
  name = name;
  endless = is_endless fixed end;
}

-- the pair of a mapping's EID and its stay, with its name in the store
abbrev pub stay_of : ℕ → Mapping → Eid × Stay
stay_of name mapping = (mapping.eid, stay_until mapping.fixed mapping.end name)

-- the pair of EID and stay of each mapping, with their names in the store
abbrev pub all_stays : List ℕ → List Mapping → List (Eid × Stay)
all_stays [] mappings = []
all_stays (name ∷ names) [] = []
all_stays (name ∷ names) (mapping ∷ mappings) = stay_of name mapping ∷ all_stays names mappings

-- whether the mapping of a stay hasn't ended at a moment
abbrev pub stay_lasts : ℕ → Stay → Bool
stay_lasts now stay = stay.endless || nat_lt now stay.end

-- ### by end

-- the order of ends: by moment, then EID
abbrev pub ending_order : Ending → Ending → Ordering
ending_order a b = ordering_then (nat_cmp a.end b.end) (eid_order a.eid b.eid)

pub ending_order-total : IsTotalOrder ending_order
ending_order-total = then_total (on_total (λ key. key.end) nat_cmp_total) (on_total (λ key. key.eid) eid_order-total)

-- whether a mapping isn't fixed and has that end
abbrev pub ends_as : Ending → Mapping → Bool
ends_as key mapping = not mapping.fixed && ((mapping.end == key.end) && same_eid mapping.eid key.eid)

-- whether an end is of an instance's mapping and isn't later than a moment
abbrev pub has_ended_in : ℕ → ℕ → Ending → Bool
has_ended_in m iid key = not (nat_lt m key.end) && (key.eid.iid == iid)

-- ### by name

-- by address, then EID
abbrev pub name_order : Name → Name → Ordering
name_order a b = ordering_then (addr_order a.addr b.addr) (eid_order a.eid b.eid)

pub name_order-total : IsTotalOrder name_order
name_order-total = then_total (on_total (λ key. key.addr) addr_order-total) (on_total (λ key. key.eid) eid_order-total)

-- a locator of an EID's mapping may be used (RFC 9301, section 5.4), and names the address so
abbrev pub names_by : Name → Eid → Locator → Bool
names_by key eid locator =
    not (locator.priority == 255) && (same_address locator.addr key.addr && same_eid eid key.eid)

-- the mapping names it so
abbrev pub names_as : Name → Mapping → Bool
names_as key mapping = list_any (names_by key mapping.eid) mapping.details.locators

-- what is seen of names: whether they are kept, the keys in order, for how many mappings there is place, of which each may
-- have as many locators as is allowed, and how many items their list has
pub record Naming : Type 0 where
  pub begun : Bool
  pub keys : List Name
  pub places : ℕ
  pub kept : ℕ

-- where names are kept, the keys are those of the mappings, and so many mappings have place
pub record AreNames (mappings : List Mapping) (places : ℕ) (names : Naming) : Type 0 where
  pub keys : names.begun ≡ true → (key : Name) → has name_order key names.keys ≡ list_any (names_as key) mappings
  pub room : names.begun ≡ true → places ≤ names.places

-- ### by instance

-- whether an instance has learned a mapping: it is of the instance, and isn't fixed
abbrev pub is_learned : ℕ → Mapping → Bool
is_learned iid mapping = (mapping.eid.iid == iid) && not mapping.fixed

-- the number of an instance by a function, and one more where the instance has learned that mapping
abbrev pub with_one : Mapping → (ℕ → ℕ) → ℕ → ℕ
with_one mapping number iid = number iid + (if is_learned iid mapping then 1 else 0)

-- the numbers of the limits' instances, one for each limit
abbrev pub for_each : (ℕ → ℕ) → List LimitItem → List ℕ
for_each number limits = map (λ limit. number limit.iid) limits

-- limits, and for each of them how many mappings its instance has learned
pub record Counted : Type 0 where
  pub limits : List LimitItem
  pub learned : List ℕ

-- ### all of it

-- the ends are those of the mappings, and the counts are how many mappings each instance has learned
pub record IsIndexed (mappings : List Mapping) (endings : List Ending) (counts : Counted) : Type 0 where
  pub ends : (key : Ending) → has ending_order key endings ≡ list_any (ends_as key) mappings
  pub counted : counts.learned ≡ for_each (λ iid. learned_in iid mappings) counts.limits

-- mappings have few locators, all have place among the ends, of which there is no more than may ever be asked for, and what
-- finds them is theirs
pub record IsFound (mappings : List Mapping) (spare : ℕ) (endings : List Ending) (ending_places : ℕ) (counts : Counted) (names : Naming) : Type 0 where
  pub indexed : IsIndexed mappings endings counts
  pub few : AllFew mappings
  pub enough : length mappings ≤ ending_places
  pub most : ending_places ≤ 2 * most_mappings
  pub named : AreNames mappings (length mappings + spare) names

-- indexed mappings as callers see them: the mappings, for how many more there is room, for how many some list has
-- place, how many items the lists have, and the limits of instances
pub record Listed : Type 0 where
  pub mappings : List Mapping
  pub spare : ℕ
  pub mapping_places : ℕ
  pub kept : ℕ
  pub limits : List LimitItem
