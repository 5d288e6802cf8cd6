-- What all settings that are read from a file keep to: ranges, limits and orders.
use Rattle.std.specs.Prelude.{◌≡◌, ◌≤◌, ◌<◌, ◌^◌, false, true, IsTrue, IfSome, length, map}
use Rattle.std.specs.List.{All, IsDistinct}
use Rattle.std.specs.List.Sorted.{IsStrictlySortedBy}
use Rattle.std.specs.Ordering.{eq_by_cmp, nat_cmp}
use Rattle.mapping_records.specs.declared.record.Locator.{Locator}
use Rattle.mapping_records.specs.declared.record.Record.{Record}
use Rattle.mapping_records.specs.Orders.{addr_order, eid_order}
use Rattle.lisp_settings.specs.Changes.{IsChangeOf, change_key, change_order}
use Rattle.lisp_settings.specs.Instances.{IsLimitOf, is_within}
use Rattle.lisp_settings.specs.Limits.{default_minutes, most_attachments, most_changes, most_databases, most_limits, most_locators, most_mappings}
use Rattle.lisp_settings.specs.Resolver.{is_reachable}
use Rattle.lisp_settings.specs.declared.settings.Attachment.{Attachment}
use Rattle.lisp_settings.specs.declared.settings.Database.{Database}
use Rattle.lisp_settings.specs.declared.settings.Settings.{Settings}

-- an attachment: its VLAN has 12 bits, its instance 24
pub record IsLawfulAttachment (attachment : Attachment) : Type 0 where
  pub vlan : attachment.vlan ≤ 4095
  pub iid : attachment.iid < 2 ^ 24

-- an EID prefix of the site: its version has 12 bits; its EID has its own ranges
pub record IsLawfulDatabase (database : Database) : Type 0 where
  pub version : database.version ≤ 4095

-- a locator of a static mapping: not for multicast, and with L and p clear, because no Map-Reply brought it
pub record IsLawfulLocator (locator : Locator) : Type 0 where
  pub m_priority : locator.m_priority ≡ 255
  pub m_weight : locator.m_weight ≡ 0
  pub local : locator.local ≡ false
  pub probed : locator.probed ≡ false

-- a static mapping: the default TTL, A set, numbers in their ranges, and few locators, in the order of the file and of
-- different addresses
pub record IsLawfulMapping (mapping : Record) : Type 0 where
  pub ttl : mapping.ttl ≡ default_minutes
  pub action : mapping.action ≤ 7
  pub version : mapping.version ≤ 4095
  pub authoritative : mapping.authoritative ≡ true
  pub few_locators : length mapping.locators ≤ most_locators
  pub locators : All IsLawfulLocator mapping.locators
  pub distinct : IsDistinct (eq_by_cmp addr_order) (map (λ locator. locator.addr) mapping.locators)

-- settings in their ranges, limits and orders; a list that ascends strictly has no duplicates
pub record IsLawful (settings : Settings) : Type 0 where
  pub resolver : IfSome settings.resolver (λ addr. IsTrue (is_reachable settings.locators addr))
  pub ttl : (1 ≤ settings.ttl) × (settings.ttl ≤ 4294967294)
  pub some_locators : 1 ≤ length settings.locators
  pub few_locators : length settings.locators ≤ most_locators
  pub locators : IsStrictlySortedBy addr_order (map (λ own. own.addr) settings.locators)
  pub few_attachments : length settings.attachments ≤ most_attachments
  pub attachments : All IsLawfulAttachment settings.attachments
  pub vlans : IsStrictlySortedBy nat_cmp (map (λ attachment. attachment.vlan) settings.attachments)
  pub few_databases : length settings.databases ≤ most_databases
  pub databases : All IsLawfulDatabase settings.databases
  pub prefixes : IsStrictlySortedBy eid_order (map (λ database. database.eid) settings.databases)
  pub few_mappings : length settings.mappings ≤ most_mappings
  pub mappings : All IsLawfulMapping settings.mappings
  pub eids : IsStrictlySortedBy eid_order (map (λ mapping. mapping.eid) settings.mappings)
  pub few_changes : length settings.changes ≤ most_changes
  pub changes : All (IsChangeOf settings.locators) settings.changes
  pub moments : IsStrictlySortedBy change_order (map change_key settings.changes)
  pub few_limits : length settings.limits ≤ most_limits
  pub limits : All (IsLimitOf settings.attachments) settings.limits
  pub instances : IsStrictlySortedBy nat_cmp (map (λ limit. limit.iid) settings.limits)
  pub within : IsTrue (is_within (length settings.mappings) settings.limits)
