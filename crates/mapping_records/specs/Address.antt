-- Addresses behind their AFI in the control messages, RFC 9301 section 5. AFI 1 is IPv4, 2 is IPv6.
use Rattle.std.specs.Prelude.{◌≡◌, ℕ, ◌+◌, ◌==◌, ◌||◌, Bool, List, ◌++◌, if◌then◌else◌}
use Rattle.octets.specs.Numbers.{big, big_octets}
use Rattle.octets.specs.declared.refused.Refused.{Refused}
use Rattle.octets.specs.declared.refused.Layer.TheVariants.{Message}
use Rattle.octets.specs.declared.refused.Why.{Why}
use Rattle.ip_headers.specs.Udp.{addr_octets}
use Rattle.ip_headers.specs.declared.addr.Addr.{Addr}
use Rattle.ip_headers.specs.declared.addr.Addr.TheVariants.{V4, V6}

-- a refusal at a place
abbrev pub refused : ℕ → Why → Refused
refused place why = record { layer = Message; place = place; why = why }

-- whether an address follows that AFI
abbrev pub has_addr : ℕ → Bool
has_addr afi = (afi == 1) || (afi == 2)

-- the octets of an address of that AFI
abbrev pub addr_size : ℕ → ℕ
addr_size afi = if afi == 1 then 4 else 16

-- the address of that AFI at a place
abbrev pub addr_at : ℕ → List ℕ → ℕ → Addr
addr_at afi octets at = if afi == 1 then V4 (big 4 octets at) else V6 (big 16 octets at)

-- the AFI of an address
abbrev pub afi_of : Addr → ℕ
afi_of (V4 n) = 1
afi_of (V6 n) = 2

-- the AFI and the octets of an address
abbrev pub canonical_addr : Addr → List ℕ
canonical_addr addr = big_octets 2 (afi_of addr) ++ addr_octets addr

-- how many octets an address has, without its AFI
abbrev pub octets_of : Addr → ℕ
octets_of (V4 n) = 4
octets_of (V6 n) = 16

-- the AFI and the octets of this address stand at a place
abbrev pub SpellsAddr : List ℕ → ℕ → Addr → Type 0
SpellsAddr octets at (V4 n) = (big 2 octets at ≡ 1) × (big 4 octets (at + 2) ≡ n)
SpellsAddr octets at (V6 n) = (big 2 octets at ≡ 2) × (big 16 octets (at + 2) ≡ n)
