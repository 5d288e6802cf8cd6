-- The texts of addresses and prefixes in a settings file.
use Rattle.std.specs.Prelude.{ℕ, ◌==◌, Bool, true, false, IsTrue, List, Option, Some, None, option_map, option_and_then, if◌then◌else◌, refl}
use Rattle.std.specs.List.{list_any, before_first, after_first}
use Rattle.std.specs.Int.{w32, w128, from_be_bytes}
use Rattle.std.specs.Net.Addr.{octets_of}
use Rattle.std.specs.Net.Reader.{read_octet, read_ipv4, read_ipv6, whole_value}
use Rattle.ip_headers.specs.Addr.{cleared, is_prefix}
use Rattle.ip_headers.specs.declared.addr.Addr.{Addr}
use Rattle.ip_headers.specs.declared.addr.Addr.TheVariants.{V4, V6}
use Rattle.ip_headers.specs.declared.prefix.Prefix.{Prefix}

infixl 10 ◌>>=◌
-- a step on the value of an option; None without a value
abbrev pub ◌>>=◌ : {A B : Type 0} → Option A → (A → Option B) → Option B
o >>= f = option_and_then f o

-- whether an octet is `.`
abbrev pub is_dot : ℕ → Bool
is_dot octet = octet == 46

-- whether an octet is `/`
abbrev pub is_slash : ℕ → Bool
is_slash octet = octet == 47

-- the IPv4 address in a text: four decimal numbers of 0 to 255 without leading zeros, joined by dots
abbrev pub ipv4_address : List ℕ → Option Addr
ipv4_address text =
    option_map (λ octets. V4 (from_be_bytes w32 octets)) (whole_value (read_ipv4 text))

-- the IPv6 address in a text: eight groups of one to four hexadecimal digits, joined by colons; one run of zeros may be
-- `::`
abbrev pub ipv6_address : List ℕ → Option Addr
ipv6_address text =
    option_map (λ groups. V6 (from_be_bytes w128 (octets_of groups))) (whole_value (read_ipv6 text))

-- the address in a text, of either family; only an IPv4 address has dots
unfoldable pub address_of : List ℕ → Option Addr
address_of text = if list_any is_dot text then ipv4_address text else ipv6_address text

-- the prefix length in a text: a decimal number below 256 without leading zeros
unfoldable pub length_of : List ℕ → Option ℕ
length_of text = whole_value (read_octet text)

-- the value made from the proof of a test; None where the test fails
abbrev pub some_if : {A : Type 0} → (test : Bool) → (IsTrue test → A) → Option A
some_if true make = Some (make refl)
some_if false make = None

-- the prefix of an address and a length, where the bits past the length are 0
abbrev pub lawful_prefix : Addr → ℕ → Option Prefix
lawful_prefix addr len =
    some_if (is_prefix addr len) (λ lawful. record { addr = addr; len = len; lawful = lawful })

-- the prefix of an address and a length, with the bits past the length cleared
unfoldable pub prefix_with_length : Addr → ℕ → Option Prefix
prefix_with_length addr len = lawful_prefix (cleared addr len) len

-- the prefix in a text: an address, `/` and a length, with the bits past the length cleared
unfoldable pub prefix_of : List ℕ → Option Prefix
prefix_of text = do
  addr ← address_of (before_first is_slash text)
  len ← length_of (after_first is_slash text)
  prefix_with_length addr len
