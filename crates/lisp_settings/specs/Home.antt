-- The database prefix that an address belongs to.
use Rattle.std.specs.Prelude.{ℕ, List, Option}
use Rattle.ip_headers.specs.Addr.{width}
use Rattle.ip_headers.specs.declared.addr.Addr.{Addr}
use Rattle.mapping_records.specs.Eids.{longest}
use Rattle.lisp_settings.specs.declared.settings.Database.{Database}

-- the longest database prefix of an instance that covers an address
abbrev pub home_of : List Database → ℕ → Addr → Option Database
home_of databases iid addr = longest (λ database. database.eid) databases iid addr (width addr)
