-- The ranges of an SMR.
use Rattle.std.specs.Prelude.{ℕ}
use Rattle.ip_headers.specs.Addr.{width}
use Rattle.ip_headers.specs.declared.addr.Addr.{Addr}
use Rattle.mapping_records.specs.declared.eid.Eid.{Eid}
use Rattle.router_model.specs.Hear.{Range}

-- the range of an EID: its instance, address and length
abbrev pub range_of : Eid → Range
range_of eid = record { iid = eid.iid; addr = eid.prefix.addr; len = eid.prefix.len }

-- the range of a Source EID, as a host
abbrev pub source_range : ℕ × Addr → Range
source_range source = record { iid = source.0; addr = source.1; len = width source.1 }
