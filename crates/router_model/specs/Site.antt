-- The settings by addresses: own locators, attachments, the site's prefixes.
use Rattle.std.specs.Prelude.{ℕ, ◌+◌, ◌*◌, ◌==◌, ◌&&◌, Bool, List, [], ◌∷◌, filter, is_some, option_and_then, Option, Some, None, if◌then◌else◌}
use Rattle.ip_headers.specs.Addr.{width}
use Rattle.ip_headers.specs.declared.addr.Addr.{Addr}
use Rattle.mapping_records.specs.Eids.{longest}
use Rattle.mapping_records.specs.declared.eid.Eid.{Eid}
pub use Rattle.lisp_settings.specs.Changes.{is_own}
use Rattle.lisp_settings.specs.declared.settings.Attachment.{Attachment}
use Rattle.lisp_settings.specs.declared.settings.Database.{Database}
use Rattle.lisp_settings.specs.declared.settings.OwnLocator.{OwnLocator}
use Rattle.lisp_settings.specs.declared.settings.Settings.{Settings}

-- the own locator for the family of an address: the first one of that family that is up, in order of address
abbrev pub ours : List OwnLocator → Addr → Option Addr
ours [] to = None
ours (own ∷ others) to =
    if own.up && (width own.addr == width to) then Some own.addr else ours others to

-- whether the resolver is reached: there is one, and an own locator of its family is up
abbrev pub reaches_resolver : Settings → Bool
reaches_resolver settings = is_some (option_and_then (ours settings.locators) settings.resolver)

-- the own locators that are up
abbrev pub up_locators : List OwnLocator → List OwnLocator
up_locators locators = filter (λ own. own.up) locators

-- the status bits of the own locators, the first one's lowest (RFC 9300, section 5.1)
abbrev pub own_bits : List OwnLocator → ℕ
own_bits [] = 0
own_bits (own ∷ others) = (if own.up then 1 else 0) + 2 * own_bits others

-- the instance that a VLAN is attached to
abbrev pub instance_of : List Attachment → ℕ → Option ℕ
instance_of [] vlan = None
instance_of (attachment ∷ others) vlan =
    if attachment.vlan == vlan then Some attachment.iid else instance_of others vlan

-- the longest of the site's prefixes that covers an EID
abbrev pub database_of : List Database → Eid → Option Database
database_of databases eid =
    longest (λ database. database.eid) databases eid.iid eid.prefix.addr eid.prefix.len
