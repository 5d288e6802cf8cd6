-- Numbers and addresses as a report writes them.
use Rattle.std.specs.Prelude.{ℕ, zero, suc, ◌+◌, ◌-◌, ◌/◌, ◌%◌, ◌^◌, nat_lt, List, [], ◌∷◌, ◌++◌, if◌then◌else◌, length, replicate}
use Rattle.std.specs.Fmt.{decimal}
use Rattle.ip_headers.specs.declared.addr.Addr.{Addr}
use Rattle.ip_headers.specs.declared.addr.Addr.TheVariants.{V4, V6}

-- the lowest k decimal digits of a number, the highest first
abbrev pub fixed_decimal : ℕ → ℕ → List ℕ
fixed_decimal zero n = []
fixed_decimal (suc k) n = (48 + n / 10 ^ k % 10) ∷ fixed_decimal k n

-- a hexadecimal digit, in lower case
abbrev pub hex_glyph : ℕ → ℕ
hex_glyph d = if nat_lt d 10 then 48 + d else 87 + d

-- the lowest k hexadecimal digits of a number, the highest first
abbrev pub fixed_hex : ℕ → ℕ → List ℕ
fixed_hex zero n = []
fixed_hex (suc k) n = hex_glyph (n / 16 ^ k % 16) ∷ fixed_hex k n

-- a number as sixteen hexadecimal digits
unfoldable pub hex_16 : ℕ → List ℕ
hex_16 n = fixed_hex 16 n

-- a number of 64 bits as four groups of 16 bits, joined by colons
unfoldable pub four_groups : ℕ → List ℕ
four_groups n =
    fixed_hex 4 (n / 2 ^ 48)
    ++ (58 ∷ (fixed_hex 4 (n / 2 ^ 32 % 65536)
    ++ (58 ∷ (fixed_hex 4 (n / 2 ^ 16 % 65536) ++ (58 ∷ fixed_hex 4 (n % 65536))))))

-- an IPv6 address as eight groups of 16 bits, joined by colons
abbrev pub groups : ℕ → List ℕ
groups n = four_groups (n / 2 ^ 64) ++ (58 ∷ four_groups (n % 2 ^ 64))

-- an IPv4 address as its four octets in decimal, joined by dots
abbrev pub dotted : ℕ → List ℕ
dotted n =
    decimal (n / 16777216)
    ++ (46 ∷ (decimal (n / 65536 % 256)
    ++ (46 ∷ (decimal (n / 256 % 256) ++ (46 ∷ decimal (n % 256))))))

-- the digits of an octet as a table has them: how many there are, then three octets that end with them
abbrev pub octet_entry : ℕ → List ℕ
octet_entry n =
    (48 + length (decimal n)) ∷ (replicate (3 - length (decimal n)) 46 ++ decimal n)

-- the text of an address of either family
abbrev pub address_text : Addr → List ℕ
address_text (V4 n) = dotted n
address_text (V6 n) = groups n

-- a name, and a number in decimal digits behind it
unfoldable pub named : List ℕ → ℕ → List ℕ
named name n = name ++ decimal n
