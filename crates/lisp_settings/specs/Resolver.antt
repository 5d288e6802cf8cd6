-- The Map-Resolver of the settings (RFC 9301, section 8.1): its address, and the rule that it can be reached.
use Rattle.std.specs.Prelude.{◌==◌, ◌&&◌, Bool, codes, List, Option, Some, None, Result, Ok, Err, if◌then◌else◌}
use Rattle.std.specs.List.{list_any}
use Rattle.toml.specs.Data.{Data, Members, get_member}
use Rattle.ip_headers.specs.Addr.{width}
use Rattle.ip_headers.specs.declared.addr.Addr.{Addr}
use Rattle.lisp_settings.specs.Fields.{◌>>=◌, taken}
use Rattle.lisp_settings.specs.Values.{address}
use Rattle.lisp_settings.specs.declared.fault.SettingsFault.{SettingsFault}
use Rattle.lisp_settings.specs.declared.fault.SettingsFault.TheVariants.{BadValue}
use Rattle.lisp_settings.specs.declared.settings.OwnLocator.{OwnLocator}

-- the address in the value of `resolver`; None without a value
abbrev pub resolver_of : Option Data → Result (Option Addr) SettingsFault
resolver_of None = Ok None
resolver_of (Some value) = do
  addr ← taken (codes "resolver") (address value)
  Ok (Some addr)

-- the address at the key `resolver`; None without the key
abbrev pub resolver_in : Members → Result (Option Addr) SettingsFault
resolver_in top = resolver_of (get_member (codes "resolver") top)

-- whether an own locator of an address's family is up
abbrev pub is_reachable : List OwnLocator → Addr → Bool
is_reachable locators addr = list_any (λ own. own.up && (width own.addr == width addr)) locators

-- the resolver, or a fault where there is one that can't be reached (this router's choice)
abbrev pub only_reachable : List OwnLocator → Option Addr → Result (Option Addr) SettingsFault
only_reachable locators None = Ok None
only_reachable locators (Some addr) =
    if is_reachable locators addr then Ok (Some addr) else Err (BadValue (codes "resolver"))
