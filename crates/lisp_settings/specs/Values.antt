-- The values in a settings file.
use Rattle.std.specs.Prelude.{ℕ, ℤ, pos, negsuc, Bool, true, ◌&&◌, nat_le, List, Option, Some, None, is_some, if◌then◌else◌}
use Rattle.toml.specs.Data.{Data, Items, no_items, item, as_str, as_integer, as_array, as_table}
use Rattle.ip_headers.specs.declared.addr.Addr.{Addr}
use Rattle.ip_headers.specs.declared.prefix.Prefix.{Prefix}
use Rattle.lisp_settings.specs.AddressText.{◌>>=◌, address_of, prefix_of}
use Rattle.lisp_settings.specs.Hex.{hex_octets, hex_number}

-- a whole number, if it lies from the least to the greatest
abbrev pub in_range : ℕ → ℕ → ℤ → Option ℕ
in_range least greatest (pos n) = if nat_le least n && nat_le n greatest then Some n else None
in_range least greatest (negsuc n) = None

-- the whole number in a value, if it lies from the least to the greatest
abbrev pub number : ℕ → ℕ → Data → Option ℕ
number least greatest value = as_integer value >>= in_range least greatest

-- the address in a text value
abbrev pub address : Data → Option Addr
address value = as_str value >>= address_of

-- the prefix in a text value
abbrev pub prefix : Data → Option Prefix
prefix value = as_str value >>= prefix_of

-- the octets of a seed in a text value of 64 hexadecimal digits
abbrev pub seed : Data → Option (List ℕ)
seed value = as_str value >>= hex_octets 32

-- the nonce in a text value of 16 hexadecimal digits
abbrev pub nonce : Data → Option ℕ
nonce value = as_str value >>= hex_number

-- whether each item of an array is a table
abbrev pub are_tables : Items → Bool
are_tables no_items = true
are_tables (item value more) = is_some (as_table value) && are_tables more

-- the items of an array, if each is a table
abbrev pub only_tables : Items → Option Items
only_tables items = if are_tables items then Some items else None

-- the items of a value that is an array of tables
abbrev pub tables : Data → Option Items
tables value = as_array value >>= only_tables
