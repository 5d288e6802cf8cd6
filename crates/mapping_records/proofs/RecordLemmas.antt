-- Records: their parts one after another.
use Rattle.std.proofs.Common.{◌≡◌, ◌≤◌, ◌<◌, ℕ, ◌+◌, Bool, true, false, List, length, drop, slice_index, leb, Option, Some, None, refl, sym, ap, ◌∙◌, if◌then◌else◌}
use Rattle.std.specs.Prelude.{Err}
use Rattle.std.proofs.lemmas.Bool.{le-leb, lt-leb}
use Rattle.octets.specs.Rules.{first_failing}
use Rattle.octets.specs.declared.refused.Refused.{Refused}
use Rattle.octets.specs.declared.refused.Why.TheVariants.{MaskLength}
use Rattle.octets.proofs.RuleLemmas.{first_failing-append, first_failing-append_refused}
use Rattle.ip_headers.specs.Addr.{width}
use Rattle.ip_headers.specs.declared.addr.Addr.{Addr}
use Rattle.mapping_records.specs.Address.{refused}
use Rattle.mapping_records.specs.Eid.{eid_addr, eid_at, eid_rules, eid_size, is_none}
use Rattle.mapping_records.specs.Locator.{locators_rules}
use Rattle.mapping_records.specs.Record.{eid_prefix_rules, locator_count, locators_place, mask_rules, record_rules, RefusesBy}
use Rattle.mapping_records.specs.declared.fault.RecordFault.{RecordFault}
use Rattle.mapping_records.specs.declared.fault.RecordFault.TheVariants as fault
use Rattle.mapping_records.specs.declared.record.Locator.{Locator}
use Rattle.mapping_records.specs.declared.record.Record.{Record}

-- an EID with an address was read
pub record EidThere (octets : List ℕ) (iid size : ℕ) (host : Addr) : Type 0 where
  pub there : is_none octets ≡ false
  pub address : host ≡ eid_addr octets

some_of : (none : Bool) (a b : Addr) → Some a ≡ (if none then None else Some b) → (none ≡ false) × (a ≡ b)
some_of true a b e = absurd cc
some_of false a b e = (refl, cc)

pub eid_there : (octets : List ℕ) (iid size : ℕ) (host : Addr) → (iid, Some host, size) ≡ eid_at octets → EidThere octets iid size host
eid_there octets iid size host is =
    let p = some_of (is_none octets) host (eid_addr octets) (ap (λ (read : ℕ × Option Addr × ℕ). read.1) is) in
    record { there = p.0; address = p.1 }

-- the mask length is more than the family has
pub mask_too_long : (base : ℕ) (octets : List ℕ) (mask place : ℕ) → first_failing (eid_rules base octets) ≡ None → is_none octets ≡ false → width (eid_addr octets) < mask
    → first_failing (eid_prefix_rules base octets mask place) ≡ Some (refused place MaskLength)
mask_too_long base octets mask place none there long =
    let test : leb mask (width (eid_addr octets)) ≡ false = lt-leb mask (width (eid_addr octets)) long in
    first_failing-append (eid_rules base octets) (mask_rules base octets mask place) none ∙ rw (there, test) refl

-- the EID of a record is refused
pub eid_refused : (base : ℕ) (octets : List ℕ) (refused : Refused) → 10 ≤ length octets
    → first_failing (eid_prefix_rules (base + 10) (drop 10 octets) (slice_index octets 5) (base + 5)) ≡ Some refused → first_failing (record_rules base octets) ≡ Some refused
eid_refused base octets refused long some =
    let rest = locators_rules (locator_count octets) (base + locators_place octets) (drop (locators_place octets) octets) in
    rw (le-leb 10 (length octets) long) (first_failing-append_refused (eid_prefix_rules (base + 10) (drop 10 octets) (slice_index octets 5) (base + 5)) rest refused some)

-- behind the EID of a record its locators count
pub locators_count : (base : ℕ) (octets : List ℕ) → 10 ≤ length octets
    → first_failing (eid_prefix_rules (base + 10) (drop 10 octets) (slice_index octets 5) (base + 5)) ≡ None
    → first_failing (record_rules base octets) ≡ first_failing (locators_rules (locator_count octets) (base + locators_place octets) (drop (locators_place octets) octets))
locators_count base octets long none =
    let rest = locators_rules (locator_count octets) (base + locators_place octets) (drop (locators_place octets) octets) in
    rw (le-leb 10 (length octets) long) (first_failing-append (eid_prefix_rules (base + 10) (drop 10 octets) (slice_index octets 5) (base + 5)) rest none)

-- the locators' place as the EID's octets were counted
pub behind_eid : (base : ℕ) (octets rest : List ℕ) (size : ℕ) → 10 ≤ length octets
    → first_failing (eid_prefix_rules (base + 10) (drop 10 octets) (slice_index octets 5) (base + 5)) ≡ None
    → size ≡ eid_size (drop 10 octets) → rest ≡ drop (10 + size) octets
    → first_failing (record_rules base octets) ≡ first_failing (locators_rules (locator_count octets) (base + (10 + size)) rest)
behind_eid base octets rest size long none size_is rest_is =
    let count = locator_count octets in
    locators_count base octets long none
    ∙ sym (
    ap (λ (d : List ℕ). first_failing (locators_rules count (base + (10 + size)) d)) rest_is
    ∙ ap (λ (n : ℕ). first_failing (locators_rules count (base + (10 + n)) (drop (10 + n) octets))) size_is
    )

-- the fault of the locators is that of the record
pub locators_fault : (base : ℕ) (octets rest : List ℕ) (size : ℕ) (f : RecordFault) → 10 ≤ length octets
    → first_failing (eid_prefix_rules (base + 10) (drop 10 octets) (slice_index octets 5) (base + 5)) ≡ None
    → size ≡ eid_size (drop 10 octets) → rest ≡ drop (10 + size) octets
    → RefusesBy {T = List Locator × ℕ} (first_failing (locators_rules (locator_count octets) (base + (10 + size)) rest)) (Err f)
    → RefusesBy {T = Record × ℕ} (first_failing (record_rules base octets)) (Err f)
locators_fault base octets rest size (fault.Refused r) long none size_is rest_is h = behind_eid base octets rest size long none size_is rest_is ∙ h
locators_fault base octets rest size fault.Memory long none size_is rest_is h = tt

-- the mask length fits
pub mask_fits : (base : ℕ) (octets : List ℕ) (mask place : ℕ) → first_failing (eid_rules base octets) ≡ None → is_none octets ≡ false → mask ≤ width (eid_addr octets)
    → first_failing (eid_prefix_rules base octets mask place) ≡ None
mask_fits base octets mask place none there fits =
    let test : leb mask (width (eid_addr octets)) ≡ true = le-leb mask (width (eid_addr octets)) fits in
    first_failing-append (eid_rules base octets) (mask_rules base octets mask place) none ∙ rw (there, test) refl
