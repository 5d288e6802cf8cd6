-- The database prefixes that answer a Map-Request, by the prefixes that its EIDs hit.
use Rattle.std.specs.Prelude.{ℕ, Bool, List, Option}
use Rattle.std.specs.List.{list_any}
use Rattle.ip_headers.specs.declared.addr.Addr.{Addr}
use Rattle.mapping_records.specs.Eids.{covers_eid}
use Rattle.mapping_records.specs.declared.eid.Eid.{Eid}
use Rattle.mapping_records.specs.declared.record.Record.{Record}
use Rattle.lisp_settings.specs.declared.settings.Database.{Database}
use Rattle.lisp_settings.specs.declared.settings.Settings.{Settings}
use Rattle.router_model.specs.Hear.{own_record}
use Rattle.router_model.specs.Standing.{stood}

-- whether a database prefix lies within one that was hit
abbrev pub is_hit : List Eid → Database → Bool
is_hit hits database = list_any (λ hit. covers_eid hit database.eid) hits

-- the record of a database prefix with its version that many steps on
unfoldable pub standing_record : Settings → ℕ → Option Addr → Database → Record
standing_record site steps probed database = own_record site probed (stood steps database)
