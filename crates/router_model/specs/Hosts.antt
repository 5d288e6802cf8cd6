-- EIDs of single addresses.
use Rattle.std.specs.Prelude.{ℕ, Option}
use Rattle.ip_headers.specs.Addr.{width}
use Rattle.ip_headers.specs.declared.addr.Addr.{Addr}
use Rattle.mapping_records.specs.declared.eid.Eid.{Eid}
use Rattle.lisp_settings.specs.AddressText.{◌>>=◌, lawful_prefix}
use Rattle.lisp_settings.specs.Settings.{eid_of}

-- the EID of a single address of an instance, which has 24 bits
abbrev pub host_eid : ℕ → Addr → Option Eid
host_eid iid addr = do
  prefix ← lawful_prefix addr (width addr)
  eid_of iid prefix
