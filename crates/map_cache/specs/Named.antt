-- The addresses that mappings name, each with the EIDs that name it.
use Rattle.std.specs.Prelude.{◌≡◌, ◌==◌, ◌&&◌, not, true, Bool, List, filter, flat_map, fold, map, Option, None, Some, IsFalse, if◌then◌else◌}
use Rattle.std.specs.Ordering.{is_lt}
use Rattle.std.specs.declared.cmp.Ordering.TheVariants.{Equal}
use Rattle.ip_headers.specs.declared.addr.Addr.{Addr}
use Rattle.mapping_records.specs.Orders.{addr_order, eid_order}
use Rattle.mapping_records.specs.declared.eid.Eid.{Eid}
use Rattle.mapping_records.specs.declared.record.Locator.{Locator}
use Rattle.map_cache.specs.declared.mapping.Mapping.{Mapping}

-- whether an address is above another; without another, each is
abbrev pub comes_after : Option Addr → Addr → Bool
comes_after None addr = true
comes_after (Some after) addr = is_lt (addr_order after addr)

-- whether a locator's address is above another, and may be used: its priority isn't 255 (RFC 9301, section 5.4)
abbrev pub is_named : Option Addr → Locator → Bool
is_named after locator = not (locator.priority == 255) && comes_after after locator.addr

-- the addresses above another that a mapping names, each with its EID
abbrev pub named_by : Option Addr → Mapping → List (Addr × Eid)
named_by after mapping =
    map (λ locator. (locator.addr, mapping.eid)) (filter (is_named after) mapping.details.locators)

-- the addresses above another that mappings name, each with its EID, in the order of the mappings
abbrev pub named_above : Option Addr → List Mapping → List (Addr × Eid)
named_above after mappings = flat_map (named_by after) mappings

-- the pair of the lesser address of two, and of equal addresses the first
abbrev pub lesser : Option (Addr × Eid) → Addr × Eid → Option (Addr × Eid)
lesser None next = Some next
lesser (Some best) next = if is_lt (addr_order next.0 best.0) then Some next else Some best

-- the first pair of least address, or None
abbrev pub least_named : List (Addr × Eid) → Option (Addr × Eid)
least_named named = fold lesser None named

-- a pair's address is no less than that of the best pair
abbrev pub IsNoLess : Addr × Eid → Addr × Eid → Type 0
IsNoLess best other = IsFalse (is_lt (addr_order other.0 best.0))

-- where a pair has the address of the best pair, its EID is no less
abbrev pub IsNoLessAtOne : Addr × Eid → Addr × Eid → Type 0
IsNoLessAtOne best other =
    addr_order other.0 best.0 ≡ Equal → IsFalse (is_lt (eid_order other.1 best.1))
