-- EIDs from their AFI on, RFC 9301 section 5; with an instance as LCAF, RFC 8060 section 4.1.
use Rattle.std.specs.Prelude.{◌≡◌, ◌⊎◌, ℕ, ◌+◌, ◌^◌, ◌<◌, ◌≤◌, ◌==◌, ◌||◌, nat_le, nat_lt, Bool, List, [], ◌∷◌, ◌++◌, length, slice_index, if◌then◌else◌, Option, Some, None}
use Rattle.octets.specs.Numbers.{big, big_octets}
use Rattle.octets.specs.declared.refused.Refused.{Refused}
use Rattle.octets.specs.declared.refused.Why.TheVariants.{Short, Afi, LcafType, LcafLength, InstanceTooLarge}
use Rattle.ip_headers.specs.declared.addr.Addr.{Addr}
use Rattle.ip_headers.specs.Addr.{IsAddr}
use Rattle.mapping_records.specs.Address.{refused, has_addr, addr_size, addr_at, canonical_addr, octets_of, SpellsAddr}

-- the AFI at the front
abbrev pub afi : List ℕ → ℕ
afi octets = big 2 octets 0

-- whether there is no EID: the AFI is 0
abbrev pub is_none : List ℕ → Bool
is_none octets = afi octets == 0

-- whether the address stands in an LCAF, behind its own AFI
abbrev pub is_lcaf : List ℕ → Bool
is_lcaf octets = afi octets == 16387

-- the AFI of an LCAF's address
abbrev pub inner_afi : List ℕ → ℕ
inner_afi octets = big 2 octets 12

-- the octets of an AFI and its address
abbrev pub plain_size : List ℕ → ℕ
plain_size octets = 2 + addr_size (afi octets)

-- the rule of an AFI and its address: the address is there
abbrev pub plain_rules : ℕ → List ℕ → List (Bool × Refused)
plain_rules base octets =
    (is_none octets || nat_le (plain_size octets) (length octets), refused (base + 2) Short) ∷ []

-- the rules of an LCAF: it is of type 2, has the length of its address, and an instance of 24 bits
abbrev pub lcaf_rules : ℕ → List ℕ → List (Bool × Refused)
lcaf_rules base octets =
    (nat_le 8 (length octets), refused (base + 2) Short)
    ∷ (slice_index octets 4 == 2, refused (base + 4) LcafType)
    ∷ (nat_le 14 (length octets), refused (base + 8) Short)
    ∷ (has_addr (inner_afi octets), refused (base + 12) Afi)
    ∷ (big 2 octets 6 == 6 + addr_size (inner_afi octets), refused (base + 6) LcafLength)
    ∷ (nat_lt (big 4 octets 8) 16777216, refused (base + 8) InstanceTooLarge)
    ∷ (nat_le (14 + addr_size (inner_afi octets)) (length octets), refused (base + 14) Short)
    ∷ []

-- the rules of an EID
abbrev pub eid_rules : ℕ → List ℕ → List (Bool × Refused)
eid_rules base octets =
    (nat_le 2 (length octets), refused base Short)
    ∷ (is_none octets || is_lcaf octets || has_addr (afi octets), refused base Afi)
    ∷ (if is_lcaf octets then lcaf_rules base octets else plain_rules base octets)

-- the instance, which is 0 without an LCAF
abbrev pub instance_at : List ℕ → ℕ
instance_at octets = if is_lcaf octets then big 4 octets 8 else 0

-- the address of an EID, where one is there
abbrev pub eid_addr : List ℕ → Addr
eid_addr octets =
    if is_lcaf octets then addr_at (inner_afi octets) octets 14 else addr_at (afi octets) octets 2

-- the octets of an EID, from its AFI on
abbrev pub eid_size : List ℕ → ℕ
eid_size octets =
    if is_lcaf octets then 14 + addr_size (inner_afi octets)
    else if is_none octets then 2
    else plain_size octets

-- the instance, the address if there is one, and the octets of the EID at the front
abbrev pub eid_at : List ℕ → ℕ × Option Addr × ℕ
eid_at octets =
    (instance_at octets, (if is_none octets then None else Some (eid_addr octets)), eid_size octets)

-- an instance and an address that an EID can have; without an address the instance is 0
abbrev pub InRangeEid : ℕ → Option Addr → Type 0
InRangeEid iid None = iid ≡ 0
InRangeEid iid (Some addr) = (iid < 2 ^ 24) × IsAddr addr

-- the octets begin with AFI 0: there is no EID
pub record SpellsNone (octets : List ℕ) (iid size : ℕ) : Type 0 where
  pub whole : size ≤ length octets
  pub none : afi octets ≡ 0
  pub instance : iid ≡ 0
  pub end : size ≡ 2

-- the octets begin with the AFI and the address of an EID of instance 0
pub record SpellsPlain (octets : List ℕ) (iid : ℕ) (host : Addr) (size : ℕ) : Type 0 where
  pub whole : size ≤ length octets
  pub address : SpellsAddr octets 0 host
  pub instance : iid ≡ 0
  pub end : size ≡ 2 + octets_of host

-- the octets begin with an LCAF of that instance. Reserved octets, flags and mask length are free.
pub record SpellsLcaf (octets : List ℕ) (iid : ℕ) (host : Addr) (size : ℕ) : Type 0 where
  pub whole : size ≤ length octets
  pub lcaf : afi octets ≡ 16387
  pub kind : slice_index octets 4 ≡ 2
  pub rest : big 2 octets 6 ≡ 6 + octets_of host
  pub instance : big 4 octets 8 ≡ iid
  pub range : iid < 2 ^ 24
  pub address : SpellsAddr octets 12 host
  pub end : size ≡ 14 + octets_of host

-- the octets begin with this EID of so many octets: an instance, an address if there is one, a size
abbrev pub SpellsEid : List ℕ → ℕ × Option Addr × ℕ → Type 0
SpellsEid octets (iid, None, size) = SpellsNone octets iid size
SpellsEid octets (iid, Some host, size) =
    SpellsPlain octets iid host size ⊎ SpellsLcaf octets iid host size

-- the octets of an LCAF with that instance
abbrev pub canonical_lcaf : ℕ → Addr → List ℕ
canonical_lcaf iid host =
    big_octets 2 16387
    ++ (0 ∷ 0 ∷ 2 ∷ 0
    ∷ (big_octets 2 (6 + octets_of host) ++ (big_octets 4 iid ++ canonical_addr host)))

-- the one spelling of an EID: an LCAF exactly where the instance isn't 0, ignored bits 0
abbrev pub canonical_eid : ℕ → Option Addr → List ℕ
canonical_eid iid None = 0 ∷ 0 ∷ []
canonical_eid iid (Some host) = if iid == 0 then canonical_addr host else canonical_lcaf iid host
