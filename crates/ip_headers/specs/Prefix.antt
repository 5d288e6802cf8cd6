-- Prefixes and the addresses below them.
use Rattle.std.specs.Prelude.{Bool}
use Rattle.ip_headers.specs.Addr.{covers, width}
use Rattle.ip_headers.specs.declared.addr.Addr.{Addr}
use Rattle.ip_headers.specs.declared.prefix.Prefix.{Prefix}

-- whether a prefix covers an address
abbrev pub covers_addr : Prefix → Addr → Bool
covers_addr prefix addr = covers prefix.addr prefix.len addr (width addr)
