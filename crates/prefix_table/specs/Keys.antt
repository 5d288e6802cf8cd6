-- EIDs as keys: their instance, family, length and first bits.
use Rattle.std.specs.Prelude.{ℕ, ◌/◌, ◌%◌, ◌^◌}
use Rattle.ip_headers.specs.Addr.{width, number, first_bits}
use Rattle.mapping_records.specs.declared.eid.Eid.{Eid}
use Rattle.prefix_table.specs.declared.key.Key.{Key}

-- the number of bits of the addresses of an EID's family
abbrev pub key_width : Eid → ℕ
key_width key = width key.prefix.addr

-- how many bits of an EID count
abbrev pub key_len : Eid → ℕ
key_len key = key.prefix.len

-- the first bits of an EID's address, as a number
abbrev pub key_bits : Eid → ℕ → ℕ
key_bits key len = first_bits key.prefix.addr len

-- the key of an EID, which a node keeps
abbrev pub key_of : Eid → Key
key_of eid = record {
  high = number eid.prefix.addr / 2 ^ 64;
  low = number eid.prefix.addr % 2 ^ 64;
  iid = eid.iid;
  width = width eid.prefix.addr;
  len = eid.prefix.len;
}
