-- EID prefixes: what is spelled is read, what is read is spelled, and what is written is spelled.
use Rattle.std.proofs.Common.{◌≡◌, inl, inr, ◌≤◌, ◌<◌, ◌^◌, ℕ, ◌-◌, ◌%◌, Bool, false, IsTrue, List, ◌++◌, length, eqb, leb, Option, Some, None, refl, sym, ap, subst, ◌∙◌, arith}
use Rattle.std.proofs.Math.Nat.{div-add-mod'}
use Rattle.std.proofs.lemmas.Bool.{and_parts, eqb-true, leb-true, not-true}
use Rattle.octets.specs.Rules.{first_failing}
use Rattle.octets.specs.declared.refused.Refused.{Refused}
use Rattle.octets.proofs.RuleLemmas.{all_hold}
use Rattle.ip_headers.specs.Addr.{cleared, is_prefix, width, IsAddr}
use Rattle.ip_headers.specs.declared.addr.Addr.{Addr}
use Rattle.ip_headers.specs.declared.addr.Addr.TheVariants.{V4, V6}
use Rattle.ip_headers.specs.declared.prefix.Prefix.{Prefix}
use Rattle.ip_headers.proofs.Cleared.{is_prefix-cleared}
use Rattle.mapping_records.specs.Eid.{canonical_eid, eid_addr, eid_at, eid_rules, eid_size, instance_at, is_none, SpellsEid}
use Rattle.mapping_records.specs.Record.{eid_prefix_rules, mask_rules, IsEidPrefix, SpellsEidPrefix}
use Rattle.mapping_records.specs.declared.eid.Eid.{Eid}
use Rattle.mapping_records.proofs.EidLemmas.{canonical_spells, eid_is_spelled, spelled_is_read}
use Rattle.mapping_records.proofs.RecordLemmas.{eid_there, mask_fits}
use Rattle.mapping_records.proofs.EqualValue.{equal_eid, equal_prefix}
use Rattle.mapping_records.proofs.SpelledRecord.{back_passes, front_passes}

-- an EID prefix that obeys the rules, with its value and its octets
pub record ReadEidPrefix (octets : List ℕ) (mask : ℕ) (eid : Eid) (size : ℕ) : Type 0 where
  pub rules : (base place : ℕ) → first_failing (eid_prefix_rules base octets mask place) ≡ None
  pub value : IsEidPrefix octets mask eid
  pub end : size ≡ eid_size octets

-- what is spelled is read
pub spelled_prefix : (octets : List ℕ) (mask : ℕ) (eid : Eid) (size : ℕ) → SpellsEidPrefix octets mask eid size → ReadEidPrefix octets mask eid size
spelled_prefix octets mask eid size s =
    let given : ℕ × Option Addr × ℕ = (eid.iid, Some s.host, size) in
    let value = (spelled_is_read 0 octets given s.spelled).value in
    let there = eid_there octets eid.iid size s.host (sym value) in
    let fits : mask ≤ width (eid_addr octets) = omega (arith, s.fits, s.mask_length, ap width there.address) in
    record {
      rules = λ base place. mask_fits base octets mask place (spelled_is_read base octets given s.spelled).rules there.there fits;
      value = record {
        instance = sym (ap (λ (e : ℕ × Option Addr × ℕ). e.0) value);
        addr = s.cleared_host ∙ ap (λ (a : Addr). cleared a eid.prefix.len) there.address ∙ ap (cleared (eid_addr octets)) (sym s.mask_length);
        len = sym s.mask_length;
      };
      end = sym (ap (λ (e : ℕ × Option Addr × ℕ). e.2) value);
    }

-- the rules of an EID prefix, as facts
record PrefixParts (base : ℕ) (octets : List ℕ) (mask : ℕ) : Type 0 where
  eid : first_failing (eid_rules base octets) ≡ None
  there : is_none octets ≡ false
  fits : mask ≤ width (eid_addr octets)

prefix_parts : (base : ℕ) (octets : List ℕ) (mask place : ℕ) → first_failing (eid_prefix_rules base octets mask place) ≡ None → PrefixParts base octets mask
prefix_parts base octets mask place none =
    let masks : List (Bool × Refused) = mask_rules base octets mask place in
    let hold = all_hold masks (back_passes (eid_rules base octets) masks none) in
    record {
      eid = front_passes (eid_rules base octets) masks none;
      there = not-true (is_none octets) hold.0;
      fits = leb-true _ _ hold.1.0;
    }

-- what is read is spelled
pub prefix_is_spelled : (base : ℕ) (octets : List ℕ) (mask place : ℕ) (eid : Eid) → first_failing (eid_prefix_rules base octets mask place) ≡ None → IsEidPrefix octets mask eid
    → SpellsEidPrefix octets mask eid (eid_size octets)
prefix_is_spelled base octets mask place eid none at =
    let p = prefix_parts base octets mask place none in
    let value : eid_at octets ≡ (eid.iid, Some (eid_addr octets), eid_size octets) = rw (p.there, at.instance) refl in
    record {
      mask_length = sym at.len;
      host = eid_addr octets;
      spelled = subst (λ (e : ℕ × Option Addr × ℕ). SpellsEid octets e) value (eid_is_spelled base octets p.eid);
      fits = omega (arith, p.fits, at.len);
      cleared_host = at.addr ∙ ap (cleared (eid_addr octets)) (sym at.len);
    }

-- the instance of an EID that is there
instance_below : (octets : List ℕ) (iid size : ℕ) (host : Addr) → SpellsEid octets (iid, Some host, size) → iid < 2 ^ 24
instance_below octets iid size host (inl s) = omega (arith, s.instance)
instance_below octets iid size host (inr s) = s.range

-- an EID prefix is there
pub some_prefix : (base : ℕ) (octets : List ℕ) (mask place : ℕ) → first_failing (eid_prefix_rules base octets mask place) ≡ None → (eid : Eid) × IsEidPrefix octets mask eid
some_prefix base octets mask place none =
    let p = prefix_parts base octets mask place none in
    let value : eid_at octets ≡ (instance_at octets, Some (eid_addr octets), eid_size octets) = rw p.there refl in
    let spelled = subst (λ (e : ℕ × Option Addr × ℕ). SpellsEid octets e) value (eid_is_spelled base octets p.eid) in
    let prefix : Prefix = record { addr = cleared (eid_addr octets) mask; len = mask; lawful = is_prefix-cleared (eid_addr octets) mask p.fits } in
    let eid : Eid = record { iid = instance_at octets; prefix = prefix; in_range = instance_below octets (instance_at octets) (eid_size octets) (eid_addr octets) spelled } in
    (eid, record { instance = refl; addr = refl; len = refl })

-- the EID at the front is one
pub same_eid_at : (octets : List ℕ) (mask : ℕ) (a b : Eid) → IsEidPrefix octets mask a → IsEidPrefix octets mask b → a ≡ b
same_eid_at octets mask a b s t =
    equal_eid a b (s.instance ∙ sym t.instance) (equal_prefix a.prefix b.prefix (s.addr ∙ sym t.addr) (s.len ∙ sym t.len))

-- bits past the length are 0 already
cleared-lawful : (addr : Addr) (len : ℕ) → IsTrue (is_prefix addr len) → cleared addr len ≡ addr
cleared-lawful (V4 n) len lawful =
    let rest : n % 2 ^ (32 - len) ≡ 0 = eqb-true (n % 2 ^ (32 - len)) 0 (and_parts (leb len 32) (eqb (n % 2 ^ (32 - len)) 0) lawful).1 in
    let split = div-add-mod' n (2 ^ (32 - len)) in
    ap V4 (omega (arith, rest, split))
cleared-lawful (V6 n) len lawful =
    let rest : n % 2 ^ (128 - len) ≡ 0 = eqb-true (n % 2 ^ (128 - len)) 0 (and_parts (leb len 128) (eqb (n % 2 ^ (128 - len)) 0) lawful).1 in
    let split = div-add-mod' n (2 ^ (128 - len)) in
    ap V6 (omega (arith, rest, split))

-- what is written is spelled
pub prefix_spells : (eid : Eid) (rest : List ℕ) → IsAddr eid.prefix.addr
    → SpellsEidPrefix (canonical_eid eid.iid (Some eid.prefix.addr) ++ rest) eid.prefix.len eid (length (canonical_eid eid.iid (Some eid.prefix.addr)))
prefix_spells eid rest lawful = record {
  mask_length = refl;
  host = eid.prefix.addr;
  spelled = canonical_spells eid.iid (Some eid.prefix.addr) rest (eid.in_range, lawful);
  fits = leb-true _ _ (and_parts _ _ eid.prefix.lawful).0;
  cleared_host = sym (cleared-lawful eid.prefix.addr eid.prefix.len eid.prefix.lawful);
}
