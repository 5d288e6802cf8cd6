-- Whole records: what is spelled is read, what is read is spelled, and octets spell one record.
use Rattle.std.proofs.Common.{◌≡◌, ◌≤◌, ℕ, ◌+◌, ◌/◌, ◌%◌, eqb, List, [], ◌∷◌, ◌++◌, length, drop, slice_index, leb, None, refl, sym, ap, subst, ◌∙◌}
use Rattle.std.proofs.lemmas.Bool.{leb-true}
use Rattle.octets.specs.Numbers.{big}
use Rattle.octets.specs.Rules.{first_failing}
use Rattle.octets.specs.declared.refused.Why.TheVariants.{Short}
use Rattle.octets.proofs.RuleLemmas.{all_hold}
use Rattle.mapping_records.specs.Address.{refused}
use Rattle.mapping_records.specs.Eid.{eid_size}
use Rattle.mapping_records.specs.Locator.{locators_at, locators_rules, locators_size, octets_of_locators, SpellsLocators}
use Rattle.mapping_records.specs.Record.{eid_prefix_rules, locator_count, locators_place, record_rules, record_size, IsRecordAt, SpellsRecord}
use Rattle.mapping_records.specs.declared.record.Locator.{Locator}
use Rattle.mapping_records.specs.declared.record.Record.{Record}
use Rattle.mapping_records.proofs.EidPrefixLemmas.{prefix_is_spelled, same_eid_at, some_prefix, spelled_prefix}
use Rattle.mapping_records.proofs.RecordLemmas.{behind_eid}
use Rattle.mapping_records.proofs.EqualValue.{equal_record}
use Rattle.mapping_records.proofs.SpelledRecord.{back_passes, front_passes, locators_are_spelled, spelled_locators}

-- a record that obeys the rules, with its value and its octets
pub record ReadRecord (base : ℕ) (octets : List ℕ) (mapping : Record) (size : ℕ) : Type 0 where
  pub rules : first_failing (record_rules base octets) ≡ None
  pub value : IsRecordAt octets mapping
  pub end : record_size octets ≡ size

-- what is spelled is read
pub spelled_record : (base : ℕ) (octets : List ℕ) (mapping : Record) (size : ℕ) → SpellsRecord octets mapping size → ReadRecord base octets mapping size
spelled_record base octets mapping size s =
    let inner : List ℕ = drop 10 octets in
    let mask = slice_index octets 5 in
    let count = locator_count octets in
    let eid = spelled_prefix inner mask mapping.eid s.eid_octets s.eid in
    let eid_end = eid.end in
    let rest : List ℕ = drop (10 + s.eid_octets) octets in
    let locators = spelled_locators (base + (10 + s.eid_octets)) rest mapping.locators s.locators in
    record {
      rules = behind_eid base octets rest s.eid_octets s.head (eid.rules (base + 10) (base + 5)) eid_end refl
          ∙ ap (λ (n : ℕ). first_failing (locators_rules n (base + (10 + s.eid_octets)) rest)) s.count ∙ locators.rules;
      value = record {
        ttl = sym s.ttl;
        action = sym s.action;
        authoritative = sym s.authoritative;
        version = sym s.version;
        eid = eid.value;
        locators = sym locators.values ∙ ap (λ (n : ℕ). locators_at n rest) (sym s.count) ∙ ap (λ (n : ℕ). locators_at count (drop (10 + n) octets)) eid_end;
      };
      end = ap (λ (n : ℕ). 10 + n + locators_size count (drop (10 + n) octets)) (sym eid_end)
          ∙ ap (λ (n : ℕ). 10 + s.eid_octets + locators_size n rest) s.count
          ∙ ap (λ (n : ℕ). 10 + s.eid_octets + n) locators.sizes
          ∙ sym s.end;
    }

-- the record at the front is one
pub same_at : (octets : List ℕ) (a b : Record) → IsRecordAt octets a → IsRecordAt octets b → a ≡ b
same_at octets a b s t =
    equal_record a b (s.ttl ∙ sym t.ttl) (s.action ∙ sym t.action) (s.authoritative ∙ sym t.authoritative) (s.version ∙ sym t.version)
    (same_eid_at (drop 10 octets) (slice_index octets 5) a.eid b.eid s.eid t.eid) (s.locators ∙ sym t.locators)

-- octets spell one record, of one size
pub one_record : (octets : List ℕ) (a b : Record) (m n : ℕ) → SpellsRecord octets a m → SpellsRecord octets b n → (a ≡ b) × (m ≡ n)
one_record octets a b m n s t =
    let x = spelled_record 0 octets a m s in
    let y = spelled_record 0 octets b n t in
    (same_at octets a b x.value y.value, sym x.end ∙ y.end)

-- what the rules say of a record's parts
pub record Parts (base : ℕ) (octets : List ℕ) : Type 0 where
  pub head : 10 ≤ length octets
  pub eid : first_failing (eid_prefix_rules (base + 10) (drop 10 octets) (slice_index octets 5) (base + 5)) ≡ None
  pub locators : first_failing (locators_rules (locator_count octets) (base + locators_place octets) (drop (locators_place octets) octets)) ≡ None

pub parts : (base : ℕ) (octets : List ℕ) → first_failing (record_rules base octets) ≡ None → Parts base octets
parts base octets none =
    let inner : List ℕ = drop 10 octets in
    let mask = slice_index octets 5 in
    let prefix = eid_prefix_rules (base + 10) inner mask (base + 5) in
    let locators = locators_rules (locator_count octets) (base + locators_place octets) (drop (locators_place octets) octets) in
    let head = all_hold ((leb 10 (length octets), refused base Short) ∷ []) (front_passes ((leb 10 (length octets), refused base Short) ∷ []) (prefix ++ locators) none) in
    let rest = back_passes ((leb 10 (length octets), refused base Short) ∷ []) (prefix ++ locators) none in
    record {
      head = leb-true _ _ head.0;
      eid = front_passes prefix locators rest;
      locators = back_passes prefix locators rest;
    }

-- what is read is spelled
pub record_is_spelled : (base : ℕ) (octets : List ℕ) (mapping : Record) → first_failing (record_rules base octets) ≡ None → IsRecordAt octets mapping
    → SpellsRecord octets mapping (record_size octets)
record_is_spelled base octets mapping none at =
    let inner : List ℕ = drop 10 octets in
    let rest : List ℕ = drop (locators_place octets) octets in
    let p = parts base octets none in
    let locators = locators_are_spelled (locator_count octets) (base + locators_place octets) rest p.locators in
    record {
      head = p.head;
      ttl = sym at.ttl;
      count = sym locators.number ∙ ap (λ (ls : List Locator). length ls) (sym at.locators);
      action = sym at.action;
      authoritative = sym at.authoritative;
      version = sym at.version;
      eid_octets = eid_size inner;
      eid = prefix_is_spelled (base + 10) inner (slice_index octets 5) (base + 5) mapping.eid p.eid at.eid;
      locators = subst (λ (ls : List Locator). SpellsLocators rest ls) (sym at.locators) locators.spells;
      end = ap (λ (n : ℕ). 10 + eid_size inner + n) (sym locators.sizes ∙ ap (λ (ls : List Locator). octets_of_locators ls) (sym at.locators));
    }

-- a record is there
pub some_record : (base : ℕ) (octets : List ℕ) → first_failing (record_rules base octets) ≡ None → (mapping : Record) × IsRecordAt octets mapping
some_record base octets none =
    let eid = some_prefix (base + 10) (drop 10 octets) (slice_index octets 5) (base + 5) (parts base octets none).eid in (
      record {
        ttl = big 4 octets 0;
        action = slice_index octets 6 / 32;
        authoritative = eqb (slice_index octets 6 / 16 % 2) 1;
        version = big 2 octets 8 % 4096;
        eid = eid.0;
        locators = locators_at (locator_count octets) (drop (locators_place octets) octets);
      },
      record {
        ttl = refl;
        action = refl;
        authoritative = refl;
        version = refl;
        eid = eid.1;
        locators = refl;
      },
    )
