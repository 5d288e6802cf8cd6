-- The settings that stand: own locators go up and down, and Map-Versions step on (RFC 9302, section 6).
use Rattle.std.specs.Prelude.{ℕ, zero, suc, ◌==◌, ◌&&◌, ◌/◌, nat_lt, nat_le, not, Bool, true, false, List, [], ◌∷◌, filter, map, Option, Some, None, if◌then◌else◌}
use Rattle.ip_headers.specs.declared.addr.Addr.{Addr}
use Rattle.mapping_records.specs.Eids.{same_address}
use Rattle.lisp_header.specs.Versions.{successor}
use Rattle.lisp_settings.specs.Limits.{most_changes}
use Rattle.lisp_settings.specs.declared.settings.Change.{Change}
use Rattle.lisp_settings.specs.declared.settings.Database.{Database}
use Rattle.lisp_settings.specs.declared.settings.OwnLocator.{OwnLocator}
use Rattle.lisp_settings.specs.declared.settings.Settings.{Settings}
use Rattle.router_log.specs.Moments.{seconds}
use Rattle.router_log.specs.declared.entry.Entry.{Entry}
use Rattle.router_log.specs.declared.entry.Entry.TheVariants.{Changed}
use Rattle.router_model.specs.Journal.{Journal, changed}
use Rattle.router_model.specs.Mappings.{bit}
use Rattle.router_model.specs.Site.{is_own, own_bits}
use Rattle.router_model.specs.declared.own.Own.{Own}

-- ### versions

-- a Map-Version so many steps on
abbrev pub stepped : ℕ → ℕ → ℕ
stepped zero version = version
stepped (suc steps) version = successor (stepped steps version)

-- the version of a database prefix so many steps on; 0 is no version and stays 0
abbrev pub stood_version : ℕ → ℕ → ℕ
stood_version steps version = if version == 0 then 0 else stepped steps version

-- a database prefix after so many changes
abbrev pub stood : ℕ → Database → Database
stood steps database = record database { version = stood_version steps database.version }

-- ### own locators

-- own locators, of which each with that address goes up or down
abbrev pub changing : Addr → Bool → List OwnLocator → List OwnLocator
changing address up locators =
    map (λ (own : OwnLocator). record own { up = if same_address own.addr address then up else own.up }) locators

-- own locators behind an entry
abbrev pub changed_by : Entry → List OwnLocator → List OwnLocator
changed_by (Changed moment address up) locators = changing address up locators
changed_by _ locators = locators

-- the own locators as the journal's changes leave them
abbrev pub own_after : Settings → Journal → List OwnLocator
own_after settings [] = settings.locators
own_after settings (entry ∷ before) = changed_by entry (own_after settings before)

-- own locators, whichever of them are up: all are marked as down
abbrev pub without_ups : List OwnLocator → List OwnLocator
without_ups locators = map (λ (own : OwnLocator). record own { up = false }) locators

-- ### the settings

-- the settings with these own locators, and with each version so many steps on
abbrev pub standing_with : Settings → List OwnLocator → ℕ → Settings
standing_with settings locators steps =
    record settings { locators = locators; databases = map (stood steps) settings.databases }

-- the settings that stand after the changes of a journal: by these all is decided, heard, noted and sent
abbrev pub standing : Settings → Journal → Settings
standing settings journal = standing_with settings (own_after settings journal) (changed journal)

-- ### in two numbers

-- the two numbers of own locators as they stand, after so many changes
abbrev pub own_in : List OwnLocator → ℕ → Own
own_in locators steps = record { ups = own_bits locators; steps = steps }

-- own locators, of which number i is up where bit i is set
abbrev pub with_ups : ℕ → List OwnLocator → List OwnLocator
with_ups ups [] = []
with_ups ups (own ∷ others) = record own { up = bit 0 ups } ∷ with_ups (ups / 2) others

-- the settings that stand, by the own locators that are up and the number of changes
abbrev pub standing_by : Settings → Own → Settings
standing_by settings own = standing_with settings (with_ups own.ups settings.locators) own.steps

-- ### changes that may come

-- whether two truth values are equal
abbrev pub same_up : Bool → Bool → Bool
same_up true up = up
same_up false up = not up

-- whether a change of the settings, if there is one, is that change of an own locator
abbrev pub is_change : Addr → Bool → Option Change → Bool
is_change address up None = false
is_change address up (Some change) = same_address change.address address && same_up change.up up

-- whether an entry of a change of an own locator is of this change; each other entry passes
abbrev pub has_change : Option Change → Entry → Bool
has_change next (Changed moment address up) = is_change address up next
has_change next _ = true

-- whether an entry may follow as a change: it has the address of an own locator, and fewer changes were made than there
-- may be; each other entry may
abbrev pub may_change : List OwnLocator → ℕ → Entry → Bool
may_change locators steps (Changed moment address up) = is_own locators address && nat_lt steps most_changes
may_change locators steps _ = true

-- the changes of own locators whose second isn't later than m
abbrev pub due_changes : ℕ → List Change → List Change
due_changes m changes = filter (λ change. nat_le (seconds change.at) m) changes
