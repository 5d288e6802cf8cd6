-- EIDs: what is spelled is read, what is read is spelled, and what is written is spelled.
use Rattle.std.proofs.Common.{◌≡◌, inl, inr, ◌≤◌, ◌<◌, ◌^◌, ℕ, ◌+◌, true, List, [], ◌++◌, length, Option, Some, None, eqb, leb, ltb, refl, sym, ◌∙◌, arith, rules}
use Rattle.std.proofs.lemmas.Bool.{cases_Bool, eqb-true, le-leb, lt-ltb}
use Rattle.byteorder.specs.Numbers.{big_number-reads_back}
use Rattle.octets.specs.Numbers.{big, big_octets}
use Rattle.octets.specs.Rules.{first_failing}
use Rattle.ip_headers.specs.declared.addr.Addr.{Addr}
use Rattle.ip_headers.specs.declared.addr.Addr.TheVariants.{V4, V6}
use Rattle.ip_headers.specs.Addr.{IsAddr}
use Rattle.mapping_records.specs.Address.{addr_at, addr_size, has_addr, canonical_addr, octets_of, SpellsAddr}
use Rattle.mapping_records.specs.Eid.{canonical_eid, canonical_lcaf, eid_at, eid_rules, InRangeEid, SpellsEid, SpellsLcaf, SpellsNone, SpellsPlain}

-- octets that obey the rules, with their value
pub record Read (base : ℕ) (octets : List ℕ) (eid : ℕ × Option Addr × ℕ) : Type 0 where
  pub rules : first_failing (eid_rules base octets) ≡ None
  pub value : eid_at octets ≡ eid

read_none : (base : ℕ) (octets : List ℕ) (iid size : ℕ) → SpellsNone octets iid size → Read base octets (iid, None, size)
read_none base octets iid size s =
    let long : leb 2 (length octets) ≡ true = le-leb 2 (length octets) (omega (arith, s.whole, s.end)) in
    record {
      rules = rw (long, s.none) refl;
      value = rw (s.none, s.instance, s.end) refl;
    }

read_plain : (base : ℕ) (octets : List ℕ) (iid : ℕ) (host : Addr) (size : ℕ) → SpellsPlain octets iid host size → Read base octets (iid, Some host, size)
read_plain base octets iid (V4 n) size s =
    let some : leb 2 (length octets) ≡ true = le-leb 2 (length octets) (omega (arith, s.whole, s.end)) in
    let long : leb 6 (length octets) ≡ true = le-leb 6 (length octets) (omega (arith, s.whole, s.end)) in
    record {
      rules = rw (some, s.address.0, long) refl;
      value = rw (s.address.0, s.address.1, s.instance, s.end) refl;
    }
read_plain base octets iid (V6 n) size s =
    let some : leb 2 (length octets) ≡ true = le-leb 2 (length octets) (omega (arith, s.whole, s.end)) in
    let long : leb 18 (length octets) ≡ true = le-leb 18 (length octets) (omega (arith, s.whole, s.end)) in
    record {
      rules = rw (some, s.address.0, long) refl;
      value = rw (s.address.0, s.address.1, s.instance, s.end) refl;
    }

read_lcaf : (base : ℕ) (octets : List ℕ) (iid : ℕ) (host : Addr) (size : ℕ) → SpellsLcaf octets iid host size → Read base octets (iid, Some host, size)
read_lcaf base octets iid (V4 n) size s =
    let below : ltb iid 16777216 ≡ true = lt-ltb iid 16777216 (omega (arith, s.range)) in
    let long : (k : ℕ) → k ≤ 18 → leb k (length octets) ≡ true = λ k le. le-leb k (length octets) (omega (arith, s.whole, s.end)) in
    record {
      rules = rw (long 2 (omega arith), s.lcaf, long 8 (omega arith), s.kind, long 14 (omega arith), s.address.0, s.rest, s.instance, below, long 18 (omega arith)) refl;
      value = rw (s.lcaf, s.address.0, s.address.1, s.instance, s.end) refl;
    }
read_lcaf base octets iid (V6 n) size s =
    let below : ltb iid 16777216 ≡ true = lt-ltb iid 16777216 (omega (arith, s.range)) in
    let long : (k : ℕ) → k ≤ 30 → leb k (length octets) ≡ true = λ k le. le-leb k (length octets) (omega (arith, s.whole, s.end)) in
    record {
      rules = rw (long 2 (omega arith), s.lcaf, long 8 (omega arith), s.kind, long 14 (omega arith), s.address.0, s.rest, s.instance, below, long 30 (omega arith)) refl;
      value = rw (s.lcaf, s.address.0, s.address.1, s.instance, s.end) refl;
    }

-- what is spelled is read
pub spelled_is_read : (base : ℕ) (octets : List ℕ) (eid : ℕ × Option Addr × ℕ) → SpellsEid octets eid → Read base octets eid
spelled_is_read base octets (iid, None, size) s = read_none base octets iid size s
spelled_is_read base octets (iid, Some host, size) (inl s) = read_plain base octets iid host size s
spelled_is_read base octets (iid, Some host, size) (inr s) = read_lcaf base octets iid host size s

-- octets spell one EID
pub one_eid : (octets : List ℕ) (a b : ℕ × Option Addr × ℕ) → SpellsEid octets a → SpellsEid octets b → a ≡ b
one_eid octets a b s t = sym (spelled_is_read 0 octets a s).value ∙ (spelled_is_read 0 octets b t).value

-- a number of four octets, or of sixteen, in front of others
pub back : (n x : ℕ) (rest : List ℕ) → x < 256 ^ n → big n (big_octets n x ++ rest) 0 ≡ x
back n x rest fits = big_number-reads_back n x rest fits

plain_spells : (host : Addr) (rest : List ℕ) → IsAddr host → SpellsPlain (canonical_addr host ++ rest) 0 host (length (canonical_addr host))
plain_spells (V4 n) rest fits = record { whole = omega arith; address = (refl, back 4 n rest fits); instance = refl; end = refl }
plain_spells (V6 n) rest fits = record { whole = omega arith; address = (refl, back 16 n rest fits); instance = refl; end = refl }

lcaf_spells : (iid : ℕ) (host : Addr) (rest : List ℕ) → iid < 2 ^ 24 → IsAddr host → SpellsLcaf (canonical_lcaf iid host ++ rest) iid host (length (canonical_lcaf iid host))
lcaf_spells iid (V4 n) rest range fits =
    record { whole = omega arith; lcaf = refl; kind = refl; rest = refl; instance = back 4 iid [] (omega arith); range = range; address = (refl, back 4 n rest fits); end = refl }
lcaf_spells iid (V6 n) rest range fits =
    record { whole = omega arith; lcaf = refl; kind = refl; rest = refl; instance = back 4 iid [] (omega arith); range = range; address = (refl, back 16 n rest fits); end = refl }

-- what is written is spelled
pub canonical_spells : (iid : ℕ) (host : Option Addr) (rest : List ℕ) → InRangeEid iid host
    → SpellsEid (canonical_eid iid host ++ rest) (iid, host, length (canonical_eid iid host))
canonical_spells iid None rest range = record { whole = omega arith; none = refl; instance = range; end = refl }
canonical_spells iid (Some host) rest range =
    elim (cases_Bool (eqb iid 0)) [
      | inl zero ↦ rw (zero, eqb-true iid 0 zero) (inl (plain_spells host rest range.1))
      | inr other ↦ rw other (inr (lcaf_spells iid host rest range.0 range.1))
    ]

-- what was written is read again
pub written_is_read : (base iid : ℕ) (host : Option Addr) (rest : List ℕ) → InRangeEid iid host
    → Read base (canonical_eid iid host ++ rest) (iid, host, length (canonical_eid iid host))
written_is_read base iid host rest range =
    spelled_is_read base (canonical_eid iid host ++ rest) (iid, host, length (canonical_eid iid host)) (canonical_spells iid host rest range)

-- the address of an AFI that has one
pub spells_addr : (octets : List ℕ) (at : ℕ) → has_addr (big 2 octets at) ≡ true
    → SpellsAddr octets at (addr_at (big 2 octets at) octets (at + 2)) × (octets_of (addr_at (big 2 octets at) octets (at + 2)) ≡ addr_size (big 2 octets at))
spells_addr octets at has =
    elim (cases_Bool (eqb (big 2 octets at) 1)) [
      | inl one ↦ rw one ((eqb-true _ _ one, refl), refl)
      | inr other ↦ rw other ((eqb-true _ _ (rw other at has), refl), refl)
    ]

-- what is read is spelled
pub eid_is_spelled : (base : ℕ) (octets : List ℕ) → first_failing (eid_rules base octets) ≡ None → SpellsEid octets (eid_at octets)
eid_is_spelled base octets none = search rules
