-- Source EIDs: what is spelled is read, what is read is spelled, and what is written is spelled.
use Rattle.std.proofs.Common.{◌≡◌, inl, inr, ◌<◌, ◌^◌, ℕ, List, ◌++◌, length, Option, Some, None, IfSome, refl, sym, ap, subst, ◌∙◌}
use Rattle.std.proofs.lemmas.Bool.{cases_Bool}
use Rattle.octets.specs.Rules.{first_failing}
use Rattle.ip_headers.specs.declared.addr.Addr.{Addr}
use Rattle.ip_headers.specs.Addr.{IsAddr}
use Rattle.mapping_records.specs.Eid.{eid_addr, eid_at, eid_rules, eid_size, instance_at, is_none, SpellsEid, SpellsNone}
use Rattle.mapping_records.proofs.EidLemmas.{canonical_spells, eid_is_spelled, spelled_is_read}
use Rattle.mapping_records.proofs.RecordLemmas.{eid_there}
use Rattle.map_messages.specs.Request.{canonical_source, source_at, SpellsSource}
use Rattle.map_messages.proofs.ItemLaws.{ItemRead}

-- the Source EID at the front
abbrev pub IsSource : List ℕ → Option (ℕ × Addr) → Type 0
IsSource octets source = source ≡ source_at octets

-- what is spelled is read
pub spelled_source : (octets : List ℕ) (source : Option (ℕ × Addr)) (n : ℕ) → SpellsSource octets source n → ItemRead IsSource eid_rules eid_size octets source n
spelled_source octets None n s = record {
  pass = λ base. (spelled_is_read base octets (0, None, n) s).rules;
  value = rw s.none refl;
  end = ap (λ (e : ℕ × Option Addr × ℕ). e.2) (spelled_is_read 0 octets (0, None, n) s).value;
}
spelled_source octets (Some source) n s =
    let eid : ℕ × Option Addr × ℕ = (source.0, Some source.1, n) in
    let value = (spelled_is_read 0 octets eid s).value in
    let there = eid_there octets source.0 n source.1 (sym value) in
    let iid : source.0 ≡ instance_at octets = sym (ap (λ (e : ℕ × Option Addr × ℕ). e.0) value) in
    record {
      pass = λ base. (spelled_is_read base octets eid s).rules;
      value = rw there.there (ap (λ (i : ℕ). Some (i, source.1)) iid ∙ ap (λ (a : Addr). Some (instance_at octets, a)) there.address);
      end = ap (λ (e : ℕ × Option Addr × ℕ). e.2) value;
    }

-- what is read is spelled
pub source_is_spelled : (base : ℕ) (octets : List ℕ) (source : Option (ℕ × Addr)) → first_failing (eid_rules base octets) ≡ None → IsSource octets source
    → SpellsSource octets source (eid_size octets)
source_is_spelled base octets source none is =
    let spelled = eid_is_spelled base octets none in
    elim (cases_Bool (is_none octets)) [
      | inl absent ↦
          let value : eid_at octets ≡ (instance_at octets, None, eid_size octets) = rw absent refl in
          let s : SpellsNone octets (instance_at octets) (eid_size octets) = subst (λ (e : ℕ × Option Addr × ℕ). SpellsEid octets e) value spelled in
          let source_is : source ≡ None = is ∙ rw absent refl in
          subst (λ (o : Option (ℕ × Addr)). SpellsSource octets o (eid_size octets)) (sym source_is) (subst (λ (i : ℕ). SpellsNone octets i (eid_size octets)) s.instance s)
      | inr present ↦
          let value : eid_at octets ≡ (instance_at octets, Some (eid_addr octets), eid_size octets) = rw present refl in
          let source_is : source ≡ Some (instance_at octets, eid_addr octets) = is ∙ rw present refl in
          subst (λ (o : Option (ℕ × Addr)). SpellsSource octets o (eid_size octets)) (sym source_is) (subst (λ (e : ℕ × Option Addr × ℕ). SpellsEid octets e) value spelled)
    ]

-- what is written is spelled
pub source_spells : (source : Option (ℕ × Addr)) (rest : List ℕ) → IfSome source (λ held. held.0 < 2 ^ 24) → IfSome source (λ held. IsAddr held.1)
    → SpellsSource (canonical_source source ++ rest) source (length (canonical_source source))
source_spells None rest range lawful = canonical_spells 0 None rest refl
source_spells (Some source) rest range lawful = canonical_spells source.0 (Some source.1) rest (range, lawful)
