-- The changes of own locators: the locators that may change, and the order of changes (this router's choice).
use Rattle.std.specs.Prelude.{ℕ, Bool, IsTrue, List, Option, Some, None, if◌then◌else◌}
use Rattle.std.specs.List.{list_any}
use Rattle.std.specs.Ordering.{nat_cmp, ordering_then}
use Rattle.std.specs.declared.cmp.Ordering.{Ordering}
use Rattle.toml.specs.Data.{Data}
use Rattle.ip_headers.specs.declared.addr.Addr.{Addr}
use Rattle.mapping_records.specs.Eids.{same_address}
use Rattle.mapping_records.specs.Orders.{addr_order}
use Rattle.lisp_settings.specs.AddressText.{◌>>=◌}
use Rattle.lisp_settings.specs.Values.{address}
use Rattle.lisp_settings.specs.declared.settings.Change.{Change}
use Rattle.lisp_settings.specs.declared.settings.OwnLocator.{OwnLocator}

-- whether an own locator, up or down, has this address
abbrev pub is_own : List OwnLocator → Addr → Bool
is_own locators addr = list_any (λ own. same_address own.addr addr) locators

-- the address, if an own locator has it
abbrev pub only_own : List OwnLocator → Addr → Option Addr
only_own locators addr = if is_own locators addr then Some addr else None

-- the address in a text value, if an own locator has it
abbrev pub own_address : List OwnLocator → Data → Option Addr
own_address locators value = address value >>= only_own locators

-- the address of a change is that of one of these own locators
abbrev pub IsChangeOf : List OwnLocator → Change → Type 0
IsChangeOf locators change = IsTrue (is_own locators change.address)

-- the key of a change, its second and address, which no other change has
abbrev pub change_key : Change → ℕ × Addr
change_key change = (change.at, change.address)

-- the order of changes: by second, then by address
abbrev pub change_order : ℕ × Addr → ℕ × Addr → Ordering
change_order a b = ordering_then (nat_cmp a.0 b.0) (addr_order a.1 b.1)
