-- Copies of the records of a Map-Reply, two of each.
use Rattle.std.specs.Prelude.{List, map}
use Rattle.mapping_records.specs.declared.record.Record.{Record}
use Rattle.router_model.specs.Hear.{shortened}
use Rattle.router_core.specs.declared.copies.Copies.{Copies}

-- two copies of a record, with its first locators, as many as a mapping may have
abbrev pub copies_of : Record → Copies
copies_of mapping = record { kept = shortened mapping; told = shortened mapping }

-- two copies of each record
abbrev pub all_copies : List Record → List Copies
all_copies mappings = map copies_of mappings
