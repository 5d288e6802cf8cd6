-- Records that were written spell what was written.
use Rattle.std.proofs.Common.{◌≡◌, ◌≤◌, ℕ, ◌+◌, ◌*◌, ◌/◌, ◌%◌, Bool, true, false, List, [], ◌∷◌, ◌++◌, length, drop, eqb, Some, refl, sym, ap, subst, ◌∙◌, append_assoc, arith}
use Rattle.std.proofs.lemmas.List.{drop-drop, drop_at, length-append}
use Rattle.std.proofs.lemmas.List.Concat.{flat_map-cons}
use Rattle.octets.specs.Numbers.{big_octets, flag}
use Rattle.ip_headers.specs.Addr.{IsAddr}
use Rattle.ip_headers.specs.Udp.{addr_octets}
use Rattle.ip_headers.specs.declared.addr.Addr.{Addr}
use Rattle.ip_headers.specs.declared.addr.Addr.TheVariants.{V4, V6}
use Rattle.mapping_records.specs.Address.{afi_of, octets_of, SpellsAddr}
use Rattle.mapping_records.specs.Eid.{canonical_eid}
use Rattle.mapping_records.specs.Locator.{canonical_locator, canonical_locators, octets_of_locators, AreLocators, InRangeLocator, SpellsLocator, SpellsLocators}
use Rattle.mapping_records.specs.Record.{canonical_head, canonical_record, IsLawful, IsRecordAt, SpellsEidPrefix, SpellsRecord}
use Rattle.mapping_records.specs.declared.record.Locator.{Locator}
use Rattle.mapping_records.specs.declared.record.Record.{Record}
use Rattle.mapping_records.proofs.EidLemmas.{back}
use Rattle.mapping_records.proofs.EidPrefixLemmas.{prefix_spells}
use Rattle.mapping_records.proofs.WholeRecord.{same_at, spelled_record, ReadRecord}

-- the three flags out of their octet
record Flags (local probed reachable : Bool) : Type 0 where
  first : eqb ((flag local 4 + flag probed 2 + flag reachable 1) / 4 % 2) 1 ≡ local
  second : eqb ((flag local 4 + flag probed 2 + flag reachable 1) / 2 % 2) 1 ≡ probed
  third : eqb ((flag local 4 + flag probed 2 + flag reachable 1) / 1 % 2) 1 ≡ reachable

flags : (local probed reachable : Bool) → Flags local probed reachable
flags true true true = record { first = refl; second = refl; third = refl }
flags true true false = record { first = refl; second = refl; third = refl }
flags true false true = record { first = refl; second = refl; third = refl }
flags true false false = record { first = refl; second = refl; third = refl }
flags false true true = record { first = refl; second = refl; third = refl }
flags false true false = record { first = refl; second = refl; third = refl }
flags false false true = record { first = refl; second = refl; third = refl }
flags false false false = record { first = refl; second = refl; third = refl }

-- an address behind six octets
addr_spells : (a b c d e f : ℕ) (addr : Addr) (rest : List ℕ) → IsAddr addr
    → SpellsAddr (a ∷ b ∷ c ∷ d ∷ e ∷ f ∷ (big_octets 2 (afi_of addr) ++ addr_octets addr) ++ rest) 6 addr
addr_spells a b c d e f (V4 n) rest fits = (refl, back 4 n rest fits)
addr_spells a b c d e f (V6 n) rest fits = (refl, back 16 n rest fits)

length-addr : (addr : Addr) → length (addr_octets addr) ≡ octets_of addr
length-addr (V4 n) = refl
length-addr (V6 n) = refl

length-locator : (locator : Locator) → length (canonical_locator locator) ≡ 8 + octets_of locator.addr
length-locator locator = omega (arith, length-addr locator.addr)

locator_spells : (locator : Locator) (rest : List ℕ) → InRangeLocator locator → SpellsLocator (canonical_locator locator ++ rest) locator
locator_spells locator rest range =
    let f = flags locator.local locator.probed locator.reachable in
    record {
      whole = omega (arith, length-append (canonical_locator locator) rest, length-locator locator);
      priority = refl;
      weight = refl;
      m_priority = refl;
      m_weight = refl;
      local = f.first;
      probed = f.second;
      reachable = f.third;
      address = addr_spells locator.priority locator.weight locator.m_priority locator.m_weight 0 (flag locator.local 4 + flag locator.probed 2 + flag locator.reachable 1) locator.addr rest range.addr;
    }

locators_spell : (locators : List Locator) (rest : List ℕ) → AreLocators locators → SpellsLocators (canonical_locators locators ++ rest) locators
locators_spell [] rest range = tt
locators_spell (locator ∷ locators) rest range =
    let first = canonical_locator locator in
    let others = canonical_locators locators ++ rest in
    let split : canonical_locators (locator ∷ locators) ++ rest ≡ first ++ others =
    ap (λ (t : List ℕ). t ++ rest) (flat_map-cons canonical_locator locator locators) ∙ append_assoc first (canonical_locators locators) rest in
    let moved : drop (8 + octets_of locator.addr) (first ++ others) ≡ others = drop_at first others (8 + octets_of locator.addr) (length-locator locator) in
    let rest_spells : SpellsLocators (drop (8 + octets_of locator.addr) (first ++ others)) locators =
    subst (λ (d : List ℕ). SpellsLocators d locators) (sym moved) (locators_spell locators rest range.1) in
    subst (λ (d : List ℕ). SpellsLocators d (locator ∷ locators)) (sym split) (locator_spells locator others range.0, rest_spells)

-- the octets of locators
pub length-locators : (locators : List Locator) → length (canonical_locators locators) ≡ octets_of_locators locators
length-locators [] = refl
length-locators (locator ∷ locators) =
    ap (λ (t : List ℕ). length t) (flat_map-cons canonical_locator locator locators)
    ∙ length-append (canonical_locator locator) (canonical_locators locators)
    ∙ omega (arith, length-locator locator, length-locators locators)

-- the action and the flag behind it in one octet
action_of : (action : ℕ) (authoritative : Bool) → action ≤ 7 → (action * 32 + flag authoritative 16) / 32 ≡ action
action_of action true small = omega arith
action_of action false small = omega arith

authoritative_of : (action : ℕ) (authoritative : Bool) → eqb ((action * 32 + flag authoritative 16) / 16 % 2) 1 ≡ authoritative
authoritative_of action true = let one : (action * 32 + 16) / 16 % 2 ≡ 1 = omega arith in ap (λ (n : ℕ). eqb n 1) one
authoritative_of action false = let none : (action * 32 + 0) / 16 % 2 ≡ 0 = omega arith in ap (λ (n : ℕ). eqb n 1) none

version_of : (version : ℕ) → version ≤ 4095 → (version / 256 % 256 * 256 + (version % 256 * 1 + 0)) % 4096 ≡ version
version_of version small = omega arith

-- what is written is spelled
pub record_spells : (mapping : Record) (rest : List ℕ) → IsLawful mapping → SpellsRecord (canonical_record mapping ++ rest) mapping (length (canonical_record mapping))
record_spells mapping rest lawful =
    let eid : List ℕ = canonical_eid mapping.eid.iid (Some mapping.eid.prefix.addr) in
    let locators : List ℕ = canonical_locators mapping.locators in
    let behind : List ℕ = (eid ++ locators) ++ rest in
    let split : behind ≡ eid ++ (locators ++ rest) = append_assoc eid locators rest in
    let octets : List ℕ = canonical_record mapping ++ rest in
    let moved : drop (10 + length eid) octets ≡ locators ++ rest =
    sym (drop-drop (length eid) 10 octets) ∙ ap (λ (d : List ℕ). drop (length eid) d) split ∙ drop_at eid (locators ++ rest) (length eid) refl in
    let size : length (canonical_record mapping) ≡ 10 + length (eid ++ locators) = length-append (canonical_head mapping) (eid ++ locators) in
    record {
      head = omega arith;
      ttl = back 4 mapping.ttl [] lawful.ttl;
      count = refl;
      action = action_of mapping.action mapping.authoritative lawful.range.action;
      authoritative = authoritative_of mapping.action mapping.authoritative;
      version = version_of mapping.version lawful.range.version;
      eid_octets = length eid;
      eid = subst (λ (d : List ℕ). SpellsEidPrefix d mapping.eid.prefix.len mapping.eid (length eid)) (sym split) (prefix_spells mapping.eid (locators ++ rest) lawful.addr);
      locators = subst (λ (d : List ℕ). SpellsLocators d mapping.locators) (sym moved) (locators_spell mapping.locators rest lawful.each);
      end = omega (arith, size, length-append eid locators, length-locators mapping.locators);
    }

-- what was written is read again
pub written_record : (base : ℕ) (mapping : Record) (rest : List ℕ) → IsLawful mapping → ReadRecord base (canonical_record mapping ++ rest) mapping (length (canonical_record mapping))
written_record base mapping rest lawful =
    spelled_record base (canonical_record mapping ++ rest) mapping (length (canonical_record mapping)) (record_spells mapping rest lawful)

pub written_value : (mapping read : Record) (rest : List ℕ) → IsLawful mapping → IsRecordAt (canonical_record mapping ++ rest) read → read ≡ mapping
written_value mapping read rest lawful at = same_at (canonical_record mapping ++ rest) read mapping at (written_record 0 mapping rest lawful).value
