-- Items as they are written, and as they are read.
use Rattle.std.proofs.Common.{◌≡◌, ◌≤◌, pos, codes, List, Some, Ok, refl, sym, ap, ◌∙◌, arith, le-leb, nat_le, true, ℕ}
use Rattle.toml.specs.Data.{Items, Members, no_members, string, integer, boolean, array}
use Rattle.mapping_records.specs.Orders.{addr_order}
use Rattle.mapping_records.specs.declared.record.Record.{Record}
use Rattle.lisp_settings.specs.Limits.{default_minutes, most_locators}
use Rattle.lisp_settings.specs.AddressText.{address_of}
use Rattle.lisp_settings.specs.Lawful.{IsLawfulMapping}
use Rattle.lisp_settings.specs.Lists.{count}
use Rattle.lisp_settings.specs.Settings.{database_in, locator_in, mapped_in, mapping_in}
use Rattle.lisp_settings.specs.Writing.{with_member, IsArrayOf, IsEidTable}
use Rattle.lisp_settings.specs.declared.settings.Database.{Database}
use Rattle.lisp_settings.specs.declared.settings.OwnLocator.{OwnLocator}
use Rattle.lisp_settings.proofs.EidLemmas.{eid_of-parts}

-- 0 is the least
pub zero_leb : (n : ℕ) → nat_le 0 n ≡ true
zero_leb n = le-leb 0 n (omega arith)

-- the four keys of a locator
pub locator_in-written : (own : OwnLocator) (text : List ℕ) (table : Members) → address_of text ≡ Some own.addr → own.priority ≤ 255 → own.weight ≤ 255 → table ≡ with_member (codes "up") (boolean own.up) (with_member (codes "weight") (integer (pos own.weight)) (with_member (codes "priority") (integer (pos own.priority)) (with_member (codes "address") (string text) no_members))) → locator_in table ≡ Ok own
locator_in-written own text table address priority weight is =
    ap locator_in is ∙ rw (address, zero_leb own.priority, le-leb own.priority 255 priority, zero_leb own.weight, le-leb own.weight 255 weight) refl

-- the three keys of a database
pub database_in-written : (database : Database) (front table : Members) → IsEidTable database.eid front → database.version ≤ 4095 → table ≡ with_member (codes "version") (integer (pos database.version)) front → database_in table ≡ Ok database
database_in-written database front table eid version is =
    ap database_in (is ∙ ap (with_member (codes "version") (integer (pos database.version))) eid.members) ∙ rw (zero_leb database.eid.iid, le-leb database.eid.iid 16777215 (omega (arith, database.eid.in_range)), eid.prefix, eid_of-parts database.eid, zero_leb database.version, le-leb database.version 4095 version) refl

-- the parts of a static mapping make it
made_mapping : (mapping : Record) → mapping.ttl ≡ default_minutes → mapping.authoritative ≡ true → record { ttl = default_minutes; action = mapping.action; authoritative = true; version = mapping.version; eid = mapping.eid; locators = mapping.locators } ≡ mapping
made_mapping mapping ttl authoritative = λ i. record {
  ttl = sym ttl i;
  action = mapping.action;
  authoritative = sym authoritative i;
  version = mapping.version;
  eid = mapping.eid;
  locators = mapping.locators;
}

-- the five keys of a mapping
pub mapping_in-written : (mapping : Record) (front table : Members) (locators : Items) → IsLawfulMapping mapping → IsEidTable mapping.eid front → IsArrayOf mapped_in (λ locator. locator.addr) addr_order 1 mapping.locators locators → table ≡ with_member (codes "locator") (array locators) (with_member (codes "action") (integer (pos mapping.action)) (with_member (codes "version") (integer (pos mapping.version)) front)) → mapping_in table ≡ Ok mapping
mapping_in-written mapping front table locators lawful eid listed is =
    ap mapping_in (is ∙ ap (λ t. with_member (codes "locator") (array locators) (with_member (codes "action") (integer (pos mapping.action)) (with_member (codes "version") (integer (pos mapping.version)) t))) eid.members)
    ∙ rw (zero_leb mapping.eid.iid, le-leb mapping.eid.iid 16777215 (omega (arith, mapping.eid.in_range)), eid.prefix, eid_of-parts mapping.eid, zero_leb mapping.version, le-leb mapping.version 4095 lawful.version, zero_leb mapping.action, le-leb mapping.action 7 lawful.action, listed.tables, le-leb (count locators) most_locators (omega (arith, listed.number, lawful.few_locators)), listed.reads (codes "locator")) (ap Ok (made_mapping mapping lawful.ttl lawful.authoritative))
