-- Mapping records, RFC 9301 section 5.4.
use Rattle.std.specs.Prelude.{◌≡◌, ℕ, ◌+◌, ◌*◌, ◌/◌, ◌%◌, ◌<◌, ◌^◌, ◌≤◌, ◌==◌, nat_le, not, Bool, List, [], ◌∷◌, ◌++◌, length, drop, slice_index, Option, Some, None, Result, Ok, Err}
use Rattle.octets.specs.Numbers.{big, big_octets, flag}
use Rattle.octets.specs.declared.refused.Refused.{Refused}
use Rattle.octets.specs.declared.refused.Why.TheVariants.{Short, Afi, MaskLength}
use Rattle.ip_headers.specs.Addr.{cleared, width, IsAddr}
use Rattle.ip_headers.specs.declared.addr.Addr.{Addr}
use Rattle.mapping_records.specs.Address.{refused}
use Rattle.mapping_records.specs.Eid.{canonical_eid, eid_addr, eid_rules, eid_size, instance_at, is_none, SpellsEid}
use Rattle.mapping_records.specs.Locator.{AreLocators, canonical_locators, locators_at, locators_rules, locators_size, octets_of_locators, SpellsLocators}
use Rattle.mapping_records.specs.declared.eid.Eid.{Eid}
use Rattle.mapping_records.specs.declared.fault.RecordFault.{RecordFault}
use Rattle.mapping_records.specs.declared.fault.RecordFault.TheVariants as fault
use Rattle.mapping_records.specs.declared.record.Record.{Record}

-- the rules of a mask length, which stands at a place: an EID is there, and its family has at least so many bits
abbrev pub mask_rules : ℕ → List ℕ → ℕ → ℕ → List (Bool × Refused)
mask_rules base octets mask place =
    (not (is_none octets), refused base Afi)
    ∷ (nat_le mask (width (eid_addr octets)), refused place MaskLength)
    ∷ []

-- the rules of an EID prefix
abbrev pub eid_prefix_rules : ℕ → List ℕ → ℕ → ℕ → List (Bool × Refused)
eid_prefix_rules base octets mask place = eid_rules base octets ++ mask_rules base octets mask place

-- the EID prefix at the front with that mask length, its further bits cleared
pub record IsEidPrefix (octets : List ℕ) (mask : ℕ) (eid : Eid) : Type 0 where
  pub instance : eid.iid ≡ instance_at octets
  pub addr : eid.prefix.addr ≡ cleared (eid_addr octets) mask
  pub len : eid.prefix.len ≡ mask

-- the octets begin with this EID prefix of so many octets; its bits past the mask are free
pub record SpellsEidPrefix (octets : List ℕ) (mask : ℕ) (eid : Eid) (size : ℕ) : Type 0 where
  pub mask_length : mask ≡ eid.prefix.len
  pub host : Addr
  pub spelled : SpellsEid octets (eid.iid, Some host, size)
  pub fits : eid.prefix.len ≤ width host
  pub cleared_host : eid.prefix.addr ≡ cleared host eid.prefix.len

-- the place where the locators of a record begin: behind ten octets and the EID
abbrev pub locators_place : List ℕ → ℕ
locators_place octets = 10 + eid_size (drop 10 octets)

-- how many locators a record has
abbrev pub locator_count : List ℕ → ℕ
locator_count octets = slice_index octets 4

-- the rules of a record
abbrev pub record_rules : ℕ → List ℕ → List (Bool × Refused)
record_rules base octets =
    (nat_le 10 (length octets), refused base Short)
    ∷ (eid_prefix_rules (base + 10) (drop 10 octets) (slice_index octets 5) (base + 5)
    ++ locators_rules (locator_count octets) (base + locators_place octets)
    (drop (locators_place octets) octets))

-- the record at the front
pub record IsRecordAt (octets : List ℕ) (mapping : Record) : Type 0 where
  pub ttl : mapping.ttl ≡ big 4 octets 0
  pub action : mapping.action ≡ slice_index octets 6 / 32
  pub authoritative : mapping.authoritative ≡ (slice_index octets 6 / 16 % 2 == 1)
  pub version : mapping.version ≡ big 2 octets 8 % 4096
  pub eid : IsEidPrefix (drop 10 octets) (slice_index octets 5) mapping.eid
  pub locators : mapping.locators
      ≡ locators_at (locator_count octets) (drop (locators_place octets) octets)

-- the octets of the record
abbrev pub record_size : List ℕ → ℕ
record_size octets =
    locators_place octets
    + locators_size (locator_count octets) (drop (locators_place octets) octets)

-- the result of a reader that refuses by the first rule that fails, unless an allocation is refused
abbrev pub RefusesBy : {T : Type 0} → Option Refused → Result T RecordFault → Type 0
RefusesBy refusal (Ok read) = refusal ≡ None
RefusesBy refusal (Err (fault.Refused refused)) = refusal ≡ Some refused
RefusesBy refusal (Err fault.Memory) = Unit {0}

-- a record that can be written: an action of 3 bits, a version of 12, and at most 255 locators
pub record InRange (mapping : Record) : Type 0 where
  pub action : mapping.action ≤ 7
  pub version : mapping.version ≤ 4095
  pub count : length mapping.locators ≤ 255

-- the first ten octets of a record, up to its EID
abbrev pub canonical_head : Record → List ℕ
canonical_head mapping =
    big_octets 4 mapping.ttl
    ++ (length mapping.locators ∷ mapping.eid.prefix.len
    ∷ (mapping.action * 32 + flag mapping.authoritative 16) ∷ 0
    ∷ big_octets 2 mapping.version)

-- the one spelling of a record, its ignored bits 0
abbrev pub canonical_record : Record → List ℕ
canonical_record mapping =
    canonical_head mapping
    ++ (canonical_eid mapping.eid.iid (Some mapping.eid.prefix.addr)
    ++ canonical_locators mapping.locators)

-- the octets begin with this record; its EID's bits past the mask, and unused bits, are free
pub record SpellsRecord (octets : List ℕ) (mapping : Record) (size : ℕ) : Type 0 where
  pub head : 10 ≤ length octets
  pub ttl : big 4 octets 0 ≡ mapping.ttl
  pub count : slice_index octets 4 ≡ length mapping.locators
  pub action : slice_index octets 6 / 32 ≡ mapping.action
  pub authoritative : (slice_index octets 6 / 16 % 2 == 1) ≡ mapping.authoritative
  pub version : big 2 octets 8 % 4096 ≡ mapping.version
  pub eid_octets : ℕ
  pub eid : SpellsEidPrefix (drop 10 octets) (slice_index octets 5) mapping.eid eid_octets
  pub locators : SpellsLocators (drop (10 + eid_octets) octets) mapping.locators
  pub end : size ≡ 10 + eid_octets + octets_of_locators mapping.locators

-- a record that can be written and whose numbers fit their fields
pub record IsLawful (mapping : Record) : Type 0 where
  pub range : InRange mapping
  pub ttl : mapping.ttl < 2 ^ 32
  pub addr : IsAddr mapping.eid.prefix.addr
  pub each : AreLocators mapping.locators
