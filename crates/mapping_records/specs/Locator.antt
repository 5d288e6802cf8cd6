-- Locators of mapping records, RFC 9301 section 5.4.
use Rattle.std.specs.Prelude.{◌≡◌, ℕ, zero, suc, ◌+◌, ◌/◌, ◌%◌, ◌<◌, ◌^◌, ◌≤◌, ◌==◌, nat_le, Bool, List, [], ◌∷◌, ◌++◌, length, drop, slice_index}
use Rattle.std.specs.List.{flat_map}
use Rattle.octets.specs.Numbers.{big, big_octets, flag}
use Rattle.octets.specs.declared.refused.Refused.{Refused}
use Rattle.octets.specs.declared.refused.Why.TheVariants.{Short, Afi}
use Rattle.ip_headers.specs.Udp.{addr_octets}
use Rattle.ip_headers.specs.Addr.{IsAddr}
use Rattle.mapping_records.specs.Address.{refused, has_addr, addr_size, addr_at, afi_of, octets_of, SpellsAddr}
use Rattle.mapping_records.specs.declared.record.Locator.{Locator}

-- the octets of the locator at the front, by its AFI
abbrev pub locator_size : List ℕ → ℕ
locator_size octets = 8 + addr_size (big 2 octets 6)

-- the rules of a locator
abbrev pub locator_rules : ℕ → List ℕ → List (Bool × Refused)
locator_rules base octets =
    (nat_le 8 (length octets), refused base Short)
    ∷ (has_addr (big 2 octets 6), refused (base + 6) Afi)
    ∷ (nat_le (locator_size octets) (length octets), refused (base + 8) Short)
    ∷ []

-- the flag of that weight in the last of the two octets of flags
abbrev pub flag_at : ℕ → List ℕ → Bool
flag_at weight octets = slice_index octets 5 / weight % 2 == 1

-- the locator at the front
abbrev pub locator_at : List ℕ → Locator
locator_at octets = record {
  addr = addr_at (big 2 octets 6) octets 8;
  priority = slice_index octets 0;
  weight = slice_index octets 1;
  m_priority = slice_index octets 2;
  m_weight = slice_index octets 3;
  local = flag_at 4 octets;
  probed = flag_at 2 octets;
  reachable = flag_at 1 octets;
}

-- the rules of so many locators, one after another
abbrev pub locators_rules : ℕ → ℕ → List ℕ → List (Bool × Refused)
locators_rules zero base octets = []
locators_rules (suc count) base octets =
    locator_rules base octets
    ++ locators_rules count (base + locator_size octets) (drop (locator_size octets) octets)

-- so many locators at the front, one after another
abbrev pub locators_at : ℕ → List ℕ → List Locator
locators_at zero octets = []
locators_at (suc count) octets =
    locator_at octets ∷ locators_at count (drop (locator_size octets) octets)

-- the octets of so many locators
abbrev pub locators_size : ℕ → List ℕ → ℕ
locators_size zero octets = 0
locators_size (suc count) octets =
    locator_size octets + locators_size count (drop (locator_size octets) octets)

-- the first eight octets of a locator, up to its address
abbrev pub locator_head : Locator → ℕ → List ℕ
locator_head locator afi =
    locator.priority ∷ locator.weight ∷ locator.m_priority ∷ locator.m_weight
    ∷ 0 ∷ (flag locator.local 4 + flag locator.probed 2 + flag locator.reachable 1)
    ∷ big_octets 2 afi

-- the one spelling of a locator, its unused bits 0
abbrev pub canonical_locator : Locator → List ℕ
canonical_locator locator = locator_head locator (afi_of locator.addr) ++ addr_octets locator.addr

-- the one spelling of locators, one after another
abbrev pub canonical_locators : List Locator → List ℕ
canonical_locators locators = flat_map canonical_locator locators

-- the octets that locators take
abbrev pub octets_of_locators : List Locator → ℕ
octets_of_locators [] = 0
octets_of_locators (locator ∷ locators) = 8 + octets_of locator.addr + octets_of_locators locators

-- the octets begin with this locator; unused bits are free
pub record SpellsLocator (octets : List ℕ) (locator : Locator) : Type 0 where
  pub whole : 8 + octets_of locator.addr ≤ length octets
  pub priority : slice_index octets 0 ≡ locator.priority
  pub weight : slice_index octets 1 ≡ locator.weight
  pub m_priority : slice_index octets 2 ≡ locator.m_priority
  pub m_weight : slice_index octets 3 ≡ locator.m_weight
  pub local : flag_at 4 octets ≡ locator.local
  pub probed : flag_at 2 octets ≡ locator.probed
  pub reachable : flag_at 1 octets ≡ locator.reachable
  pub address : SpellsAddr octets 6 locator.addr

-- the octets begin with these locators, one after another
abbrev pub SpellsLocators : List ℕ → List Locator → Type 0
SpellsLocators octets [] = Unit {0}
SpellsLocators octets (locator ∷ locators) =
    SpellsLocator octets locator
    × SpellsLocators (drop (8 + octets_of locator.addr) octets) locators

-- the numbers of a locator fit their fields
pub record InRangeLocator (locator : Locator) : Type 0 where
  pub addr : IsAddr locator.addr
  pub priority : locator.priority < 2 ^ 8
  pub weight : locator.weight < 2 ^ 8
  pub m_priority : locator.m_priority < 2 ^ 8
  pub m_weight : locator.m_weight < 2 ^ 8

-- the numbers of each locator fit their fields
abbrev pub AreLocators : List Locator → Type 0
AreLocators [] = Unit {0}
AreLocators (locator ∷ locators) = InRangeLocator locator × AreLocators locators
