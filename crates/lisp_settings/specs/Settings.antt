-- The settings file, a TOML document: its keys, judged one after another, and the first fault.
use Rattle.std.specs.Prelude.{◌^◌, ℕ, Bool, true, false, nat_le, nat_lt, codes, List, [], ◌∷◌, length, replicate, Option, Some, None, Result, Ok, Err, if◌then◌else◌}
use Rattle.std.specs.Ordering.{nat_cmp}
use Rattle.std.specs.Str.{is_utf8}
use Rattle.std.proofs.lemmas.Bool.{ltb-true}
use Rattle.toml.specs.Data.{Members, as_bool}
use Rattle.toml.specs.Parse.{parse_document}
use Rattle.ip_headers.specs.declared.addr.Addr.{Addr}
use Rattle.ip_headers.specs.declared.prefix.Prefix.{Prefix}
use Rattle.mapping_records.specs.declared.eid.Eid.{Eid}
use Rattle.mapping_records.specs.declared.record.Locator.{Locator}
use Rattle.mapping_records.specs.declared.record.Record.{Record}
use Rattle.lisp_settings.specs.AddressText.{some_if}
use Rattle.lisp_settings.specs.Changes.{change_key, change_order, own_address}
use Rattle.lisp_settings.specs.Fields.{◌>>=◌, only_keys, taken, required, optional}
use Rattle.lisp_settings.specs.Instances.{attached_instance, only_within}
use Rattle.lisp_settings.specs.Limits.{default_minutes, greatest_second, most_attachments, most_changes, most_databases, most_limits, most_locators, most_mappings, most_nonces, most_requests, most_text_octets}
use Rattle.lisp_settings.specs.Lists.{any_ascending, any_number, one_or_more, ascending, nonces_at}
use Rattle.mapping_records.specs.Orders.{addr_order, eid_order}
use Rattle.lisp_settings.specs.Resolver.{resolver_in, only_reachable}
use Rattle.lisp_settings.specs.Values.{number, address, prefix, seed}
use Rattle.lisp_settings.specs.declared.fault.SettingsFault.{SettingsFault}
use Rattle.lisp_settings.specs.declared.fault.SettingsFault.TheVariants.{NotToml, TooLong}
use Rattle.lisp_settings.specs.declared.settings.OwnLocator.{OwnLocator}
use Rattle.lisp_settings.specs.declared.settings.Attachment.{Attachment}
use Rattle.lisp_settings.specs.declared.settings.Change.{Change}
use Rattle.lisp_settings.specs.declared.settings.Database.{Database}
use Rattle.lisp_settings.specs.declared.settings.LimitItem.{LimitItem}
use Rattle.lisp_settings.specs.declared.settings.Settings.{Settings}

-- the own locator in a table of `locator`
abbrev pub locator_in : Members → Result OwnLocator SettingsFault
locator_in table = do
  known ← only_keys (codes "address" ∷ codes "priority" ∷ codes "weight" ∷ codes "up" ∷ []) table
  addr ← required (codes "address") address table
  priority ← optional (codes "priority") (number 0 255) 1 table
  weight ← optional (codes "weight") (number 0 255) 1 table
  up ← optional (codes "up") as_bool true table
  Ok (record { addr = addr; priority = priority; weight = weight; up = up })

-- the attachment in a table of `attachment`
abbrev pub attachment_in : Members → Result Attachment SettingsFault
attachment_in table = do
  known ← only_keys (codes "vlan" ∷ codes "iid" ∷ []) table
  vlan ← required (codes "vlan") (number 0 4095) table
  iid ← required (codes "iid") (number 0 16777215) table
  Ok (record { vlan = vlan; iid = iid })

-- the EID of an instance and a prefix, if the instance has 24 bits
abbrev pub eid_of : ℕ → Prefix → Option Eid
eid_of iid prefix =
    some_if (nat_lt iid (2 ^ 24))
    (λ below. record { iid = iid; prefix = prefix; in_range = ltb-true iid (2 ^ 24) below })

-- the EID at the required keys `iid` and `prefix`
abbrev pub eid_in : Members → Result Eid SettingsFault
eid_in table = do
  iid ← required (codes "iid") (number 0 16777215) table
  prefix ← required (codes "prefix") prefix table
  taken (codes "iid") (eid_of iid prefix)

-- the Map-Version at the key `version`, of 12 bits (RFC 9302, section 6); 0 without the key
abbrev pub version_in : Members → Result ℕ SettingsFault
version_in table = optional (codes "version") (number 0 4095) 0 table

-- the EID prefix of the site in a table of `database`
abbrev pub database_in : Members → Result Database SettingsFault
database_in table = do
  known ← only_keys (codes "iid" ∷ codes "prefix" ∷ codes "version" ∷ []) table
  eid ← eid_in table
  version ← version_in table
  Ok (record { eid = eid; version = version })

-- the locator of a static mapping with the numbers of an own locator, which its table spells
abbrev pub locator_of : OwnLocator → Locator
locator_of own = record {
  addr = own.addr;
  priority = own.priority;
  weight = own.weight;
  m_priority = 255;
  m_weight = 0;
  local = false;
  probed = false;
  reachable = own.up;
}

-- the locator in a table of a mapping's `locator`
abbrev pub mapped_in : Members → Result Locator SettingsFault
mapped_in table = do
  own ← locator_in table
  Ok (locator_of own)

-- the locators of a mapping's `locator` tables, in the order of the file
abbrev pub mapped_locators : Members → Result (List Locator) SettingsFault
mapped_locators table =
    any_number (codes "locator") mapped_in (λ locator. locator.addr) addr_order most_locators table

-- the static mapping in a table of `mapping`
abbrev pub mapping_in : Members → Result Record SettingsFault
mapping_in table = do
  known ← only_keys
      (codes "iid" ∷ codes "prefix" ∷ codes "version" ∷ codes "action" ∷ codes "locator" ∷ []) table
  eid ← eid_in table
  version ← version_in table
  action ← optional (codes "action") (number 0 7) 0 table
  locators ← mapped_locators table
  Ok (record {
    ttl = default_minutes;
    action = action;
    authoritative = true;
    version = version;
    eid = eid;
    locators = locators;
  })

-- the change in a table of `change`, whose address must be that of one of these own locators
abbrev pub change_in : List OwnLocator → Members → Result Change SettingsFault
change_in locators table = do
  known ← only_keys (codes "at" ∷ codes "address" ∷ codes "up" ∷ []) table
  at ← required (codes "at") (number 0 greatest_second) table
  address ← required (codes "address") (own_address locators) table
  up ← required (codes "up") as_bool table
  Ok (record { at = at; address = address; up = up })

-- the limit in a table of `limit`, of an instance to which one of these attachments attaches a VLAN
abbrev pub limit_in : List Attachment → Members → Result LimitItem SettingsFault
limit_in attachments table = do
  known ← only_keys (codes "iid" ∷ codes "mappings" ∷ codes "requests" ∷ []) table
  iid ← required (codes "iid") (attached_instance attachments) table
  mappings ← required (codes "mappings") (number 0 most_mappings) table
  requests ← required (codes "requests") (number 0 most_requests) table
  Ok (record { iid = iid; mappings = mappings; requests = requests })

-- the own locators in the tables of `locator`
abbrev pub own_locators : Members → Result (List OwnLocator) SettingsFault
own_locators top = do
  locators ← one_or_more (codes "locator") locator_in (λ locator. locator.addr) addr_order most_locators top
  Ok (ascending (λ locator. locator.addr) addr_order locators)

-- the attachments in the tables of `attachment`
abbrev pub attachments : Members → Result (List Attachment) SettingsFault
attachments top =
    any_ascending (codes "attachment") attachment_in (λ attachment. attachment.vlan) nat_cmp most_attachments top

-- the EID prefixes of the site in the tables of `database`
abbrev pub databases : Members → Result (List Database) SettingsFault
databases top =
    any_ascending (codes "database") database_in (λ database. database.eid) eid_order most_databases top

-- the static mappings in the tables of `mapping`
abbrev pub mappings : Members → Result (List Record) SettingsFault
mappings top =
    any_ascending (codes "mapping") mapping_in (λ mapping. mapping.eid) eid_order most_mappings top

-- the changes in the tables of `change`, each with the address of one of these own locators
abbrev pub changes : List OwnLocator → Members → Result (List Change) SettingsFault
changes locators top =
    any_ascending (codes "change") (change_in locators) change_key change_order most_changes top

-- the limits in the tables of `limit`, of instances to which these attachments attach VLANs
abbrev pub limits : List Attachment → Members → Result (List LimitItem) SettingsFault
limits attachments top =
    any_ascending (codes "limit") (limit_in attachments) (λ limit. limit.iid) nat_cmp most_limits top

-- the known keys of the top table
abbrev pub top_keys : List (List ℕ)
top_keys =
    codes "seed" ∷ codes "nonces" ∷ codes "resolver" ∷ codes "ttl" ∷ codes "probe" ∷ codes "echo"
    ∷ codes "locator" ∷ codes "attachment" ∷ codes "database" ∷ codes "mapping" ∷ codes "change" ∷ codes "limit"
    ∷ []

-- the minutes at the key `ttl`, for which others may keep the site's mappings
abbrev pub ttl_in : Members → Result ℕ SettingsFault
ttl_in top = optional (codes "ttl") (number 1 4294967294) default_minutes top

-- a step on the values of the keys `resolver`, `ttl`, `probe` and `echo`; else the first fault among them
abbrev pub choices_then : (Option Addr → ℕ → Bool → Bool → Result Settings SettingsFault) → Members
    → Result Settings SettingsFault
choices_then next top = do
  resolver ← resolver_in top
  ttl ← ttl_in top
  probe ← optional (codes "probe") as_bool false top
  echo ← optional (codes "echo") as_bool false top
  next resolver ttl probe echo

-- a step on the lists of tables in the top table; else the first fault among them
abbrev pub lists_then :
    (List OwnLocator → List Attachment → List Database → List Record → List Change → List LimitItem
    → Result Settings SettingsFault)
    → Members → Result Settings SettingsFault
lists_then next top = do
  locators ← own_locators top
  attachments ← attachments top
  databases ← databases top
  mappings ← mappings top
  changes ← changes locators top
  limits ← limits attachments top
  next locators attachments databases mappings changes limits

-- the settings in the top table, or its first fault
abbrev pub settings_in : Members → Result Settings SettingsFault
settings_in top = do
  known ← only_keys top_keys top
  seed ← optional (codes "seed") seed (replicate 32 0) top
  nonces ← nonces_at (codes "nonces") most_nonces top
  resolver ← resolver_in top
  ttl ← optional (codes "ttl") (number 1 4294967294) default_minutes top
  probe ← optional (codes "probe") as_bool false top
  echo ← optional (codes "echo") as_bool false top
  locators ← own_locators top
  attachments ← attachments top
  databases ← databases top
  mappings ← mappings top
  changes ← changes locators top
  limits ← limits attachments top
  reachable ← only_reachable locators resolver
  within ← only_within mappings limits
  Ok (record {
    seed = seed;
    nonces = nonces;
    resolver = resolver;
    ttl = ttl;
    probe = probe;
    echo = echo;
    locators = locators;
    attachments = attachments;
    databases = databases;
    mappings = mappings;
    changes = changes;
    limits = limits;
  })

-- the settings in a document, or the first fault; `NotToml` without a document
abbrev pub settings_from : Option Members → Result Settings SettingsFault
settings_from (Some top) = settings_in top
settings_from None = Err NotToml

-- the settings in a text, however long it is, or its first fault
unfoldable pub settings_in_text : List ℕ → Result Settings SettingsFault
settings_in_text text = settings_from (if is_utf8 text then parse_document text else None)

-- the settings in a text, or its first fault; a text that is too long isn't read further
unfoldable pub settings_of : List ℕ → Result Settings SettingsFault
settings_of text = if nat_le (length text) most_text_octets then settings_in_text text else Err TooLong
