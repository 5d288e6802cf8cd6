-- The version of a packet shows in its header.
use Rattle.std.proofs.Common.{◌≡◌, ℕ, List, Bool, true, false, refl}
use Rattle.ip_headers.specs.Ip.{header_at, is_v4}
use Rattle.ip_headers.specs.declared.header.IpHeader.TheVariants.{V4, V6}
use Rattle.ip_headers.specs.declared.header.V4Header.{V4Header}
use Rattle.ip_headers.specs.declared.header.V6Header.{V6Header}

four_by : (octets : List ℕ) (header : V4Header) (four : Bool) → is_v4 octets ≡ four → V4 header ≡ header_at octets → is_v4 octets ≡ true
four_by octets header true is spells = is
four_by octets header false is spells = let other = rw is at spells in cc

six_by : (octets : List ℕ) (header : V6Header) (four : Bool) → is_v4 octets ≡ four → V6 header ≡ header_at octets → is_v4 octets ≡ false
six_by octets header false is spells = is
six_by octets header true is spells = let other = rw is at spells in cc

pub v4_spelled : (octets : List ℕ) (header : V4Header) → V4 header ≡ header_at octets → is_v4 octets ≡ true
v4_spelled octets header spells = four_by octets header (is_v4 octets) refl spells

pub v6_spelled : (octets : List ℕ) (header : V6Header) → V6 header ≡ header_at octets → is_v4 octets ≡ false
v6_spelled octets header spells = six_by octets header (is_v4 octets) refl spells
