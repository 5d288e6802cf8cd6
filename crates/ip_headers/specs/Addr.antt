-- IP addresses, their order and their first bits.
use Rattle.std.specs.Prelude.{ℕ, Bool, ◌-◌, ◌*◌, ◌/◌, ◌^◌, ◌%◌, ◌&&◌, ◌==◌, ◌<◌, nat_le}
use Rattle.std.specs.Ordering.{nat_cmp}
use Rattle.std.specs.declared.cmp.Ordering.{Ordering}
use Rattle.std.specs.declared.cmp.Ordering.TheVariants.{Less, Greater}
use Rattle.ip_headers.specs.declared.addr.Addr.{Addr}
use Rattle.ip_headers.specs.declared.addr.Addr.TheVariants.{V4, V6}

-- how many bits an address of that family has
abbrev pub width : Addr → ℕ
width (V4 n) = 32
width (V6 n) = 128

-- the address as a number
abbrev pub number : Addr → ℕ
number (V4 n) = n
number (V6 n) = n

-- whether two addresses are of one family and have the same bits
abbrev pub same_address : Addr → Addr → Bool
same_address a b = (width a == width b) && (number a == number b)

-- the order of addresses: each IPv4 address before each IPv6 address, then by number
abbrev pub addr_order : Addr → Addr → Ordering
addr_order (V4 m) (V4 n) = nat_cmp m n
addr_order (V4 m) (V6 n) = Less
addr_order (V6 m) (V4 n) = Greater
addr_order (V6 m) (V6 n) = nat_cmp m n

-- the number of an address fits its family
abbrev pub IsAddr : Addr → Type 0
IsAddr addr = number addr < 2 ^ width addr

-- the first len bits of the address, as a number
abbrev pub first_bits : Addr → ℕ → ℕ
first_bits addr len = number addr / 2 ^ (width addr - len)

-- the address with the bits past the first len set to 0
abbrev pub cleared : Addr → ℕ → Addr
cleared (V4 n) len = V4 (n / 2 ^ (32 - len) * 2 ^ (32 - len))
cleared (V6 n) len = V6 (n / 2 ^ (128 - len) * 2 ^ (128 - len))

-- whether a length suits the family of an address, and the bits past it are 0
abbrev pub is_prefix : Addr → ℕ → Bool
is_prefix addr len = nat_le len (width addr) && (number addr % 2 ^ (width addr - len) == 0)

-- whether the prefix of a covers that of b: same family, not longer, and b begins with its bits
abbrev pub covers : Addr → ℕ → Addr → ℕ → Bool
covers a a_len b b_len =
    (width a == width b) && nat_le a_len b_len && (first_bits a a_len == first_bits b a_len)
